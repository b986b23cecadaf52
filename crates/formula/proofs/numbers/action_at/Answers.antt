-- `numbers::action_at` meets its contract.
-- Assumes nothing.
use borrow.Author.Rules.{rules}
use Rattle.formula.proofs.Numbered.{action_same, action_few}
use Rattle.formula.proofs.numbers.action_at.Goals as goal

pub returns : goal.returns
returns c = (search (rules, action_same), search (rules, action_few))
