-- `acts` meets its contract.
-- Assumes nothing.
use Rattle.checker.proofs.Asked.{action_positive}
use borrow.Author.Rules.{rules}
use Rattle.checker.proofs.bits.acts.Goals as goal

pub counts_true-requires : goal.counts_true-requires
counts_true-requires c = search (rules, action_positive)
