-- `pair_holds` meets its contract.
-- Assumes nothing.
use Rattle.checker.proofs.Asked.{value_positive}
use borrow.Author.Rules.{rules}
use Rattle.checker.proofs.bits.pair_holds.Goals as goal

pub counts_true-requires : goal.counts_true-requires
counts_true-requires c = search (rules, value_positive)
