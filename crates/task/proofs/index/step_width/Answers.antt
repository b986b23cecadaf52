-- `step_width` meets its contract.
-- Assumes nothing.
use borrow.Author.Rules.{rules}
use Rattle.task.proofs.Asking.{stride_fits}
use Rattle.task.proofs.index.step_width.Goals as goal

pub overflow_add-result : goal.overflow_add-result
overflow_add-result c = search (rules, stride_fits)
