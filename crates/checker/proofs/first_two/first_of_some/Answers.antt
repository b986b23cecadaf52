-- `first_of_some` meets its contract.
-- Assumes nothing.
use Rattle.checker.proofs.FirstTwo.{some_there}
use borrow.Author.Rules.{rules}
use Rattle.checker.proofs.first_two.first_of_some.Goals as goal

pub returns : goal.returns
returns c = search (rules, some_there)
