-- `print_start_value` meets its contract.
-- Assumes nothing.
use borrow.Author.Rules.{rules}
use Rattle.task_cases.proofs.Laws.{variable_inside, start_inside}
use Rattle.task_cases.proofs.print_start_value.Goals as goal

pub value_number-number-requires : goal.value_number-number-requires
value_number-number-requires g c = search (rules, variable_inside, start_inside)
