-- `stays::value_set` meets its contract.
-- Assumes nothing.
use borrow.Author.Rules.{rules}
use Rattle.lines.proofs.Noting.{value_byte}
use Rattle.lines.proofs.stays.value_set.Goals as goal

pub overflow_cast-result : goal.overflow_cast-result
overflow_cast-result c = search (rules, value_byte)
