-- Assumes nothing.
use borrow.Author.Rules.{rules}
use Rattle.task.proofs.Rows.{action_counted, place_falls, counted_within, all_counted}
use Rattle.task.proofs.filling.count_actions.Goals as goal

pub loop-at-smaller : goal.loop-at-smaller
loop-at-smaller c = search (rules, place_falls)

pub loop-at-preserved : goal.loop-at-preserved
loop-at-preserved c = search (rules, action_counted, counted_within)

pub returns : goal.returns
returns c = search (rules, all_counted)
