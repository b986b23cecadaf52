-- `single::copy` meets its contract.
-- Assumes nothing.
use borrow.Author.Rules.{rules}
use Rattle.parts.proofs.OneLine.{front_copied}
use Rattle.parts.proofs.single.copy.Goals as goal

pub returns : goal.returns
returns c = search (rules, front_copied)
