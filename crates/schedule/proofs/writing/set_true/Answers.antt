-- Assumes nothing.
use borrow.Author.Rules.{rules}
use Rattle.schedule.proofs.WriteLaws.{steps_none, steps_more, steps_done, state_none, state_more, known_now, inside_now}
use Rattle.schedule.proofs.writing.set_true.Goals as goal

pub loop-s-init : goal.loop-s-init
loop-s-init c = search (rules, steps_none, state_none)

pub set_step-requires : goal.set_step-requires
set_step-requires c = search (rules, inside_now, known_now)

pub after_entry-state-requires : goal.after_entry-state-requires
after_entry-state-requires c = search (rules, known_now)

pub loop-s-preserved : goal.loop-s-preserved
loop-s-preserved c = (search rules, search (rules, steps_more), search (rules, state_more))

pub set_values-requires : goal.set_values-requires
set_values-requires c = search (rules, inside_now)

pub returns : goal.returns
returns c = search (rules, steps_done)
