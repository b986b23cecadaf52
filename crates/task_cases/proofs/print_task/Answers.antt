-- `print_task` meets its contract.
-- Assumes nothing.
use borrow.Author.Rules.{rules}
use Rattle.task_cases.proofs.Laws.{actions_few}
use Rattle.task_cases.proofs.print_task.Goals as goal

pub preconditions_before-preconditions-requires : goal.preconditions_before-preconditions-requires
preconditions_before-preconditions-requires g c = search (rules, actions_few)

pub effects_before-effects-requires : goal.effects_before-effects-requires
effects_before-effects-requires g c = search (rules, actions_few)
