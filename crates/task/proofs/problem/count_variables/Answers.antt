-- `count_variables` meets its contract.
-- Assumes nothing.
use borrow.Author.Rules.{rules}
use Rattle.task.proofs.Asking.{stride_few, number_fits}
use Rattle.task.proofs.Stated.{variables_fit, variables_are}
use Rattle.task.proofs.problem.count_variables.Goals as goal

pub overflow_mul-result : goal.overflow_mul-result
overflow_mul-result c = search (rules, stride_few, number_fits)

pub overflow_add-result : goal.overflow_add-result
overflow_add-result c = search (rules, variables_fit)

pub returns : goal.returns
returns c = search (rules, variables_are)
