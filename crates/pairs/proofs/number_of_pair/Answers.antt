-- `pairs::number_of_pair` meets its contract.
-- Assumes nothing.
use borrow.Author.Rules.{rules}
use Rattle.pairs.proofs.Pair.{number_fits}
use Rattle.pairs.proofs.number_of_pair.Goals as goal

pub overflow_add-result : goal.overflow_add-result
overflow_add-result c = search (rules, number_fits)
