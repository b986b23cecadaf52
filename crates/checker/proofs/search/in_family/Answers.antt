-- Assumes nothing.
use Rattle.task.proofs.Families.{family_below}
use Rattle.checker.proofs.Moving.{step_fits, step_found, step_passed, step_there, steps_done}
use borrow.Author.Rules.{rules}
use Rattle.checker.proofs.search.in_family.Goals as goal

pub overflow_add-next : goal.overflow_add-next
overflow_add-next c = search (rules, step_fits, family_below)

pub in_step-c-requires : goal.in_step-c-requires
in_step-c-requires c = search (rules, step_there, family_below)

pub returns-then-c-next : goal.returns-then-c-next
returns-then-c-next c = search (rules, step_found, family_below)

pub loop-step-preserved : goal.loop-step-preserved
loop-step-preserved c = search (rules, step_passed, family_below)

pub returns : goal.returns
returns c = search (rules, steps_done, family_below)
