-- Assumes nothing.
use borrow.Author.Rules.{rules}
use Rattle.task.proofs.Bytes.{contents_ok}
use Rattle.schedule.proofs.WalkLaws.{came_none, came_more, over_refused, entry_known, stuck_refused, goal_is, goal_refused, goal_met}
use Rattle.schedule.proofs.walking.schedule_verdict.Goals as goal

pub returns-then-unknown-asked : goal.returns-then-unknown-asked
returns-then-unknown-asked c = search (rules, over_refused)

pub loop-s-init : goal.loop-s-init
loop-s-init c = search (rules, came_none)

pub entry_applies-requires : goal.entry_applies-requires
entry_applies-requires c = search (rules, entry_known)

pub returns-then-not-entry_applies : goal.returns-then-not-entry_applies
returns-then-not-entry_applies c = search (rules, stuck_refused)

pub after_entry-state-requires : goal.after_entry-state-requires
after_entry-state-requires c = search (rules, entry_known)

pub loop-s-preserved : goal.loop-s-preserved
loop-s-preserved c = search (rules, came_more)

pub row_body-requires : goal.row_body-requires
row_body-requires c = search (rules, contents_ok)

pub returns-then-i-goals : goal.returns-then-i-goals
returns-then-i-goals c = search (rules, goal_is, goal_refused)

pub returns : goal.returns
returns c = search (rules, goal_is, goal_met)
