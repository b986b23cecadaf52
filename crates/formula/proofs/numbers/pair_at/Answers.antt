-- `numbers::pair_at` meets its contract.
-- Assumes nothing.
use borrow.Author.Rules.{rules}
use Rattle.formula.proofs.Numbered.{value_same, value_few}
use Rattle.formula.proofs.numbers.pair_at.Goals as goal

pub returns : goal.returns
returns c = (search (rules, value_same), search (rules, value_few))
