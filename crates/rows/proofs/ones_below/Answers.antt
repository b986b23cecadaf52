-- `ones_below` meets its contract.
-- Assumes nothing.
use borrow.Author.Rules.{rules}
use Rattle.rows.proofs.StretchLaws.{ones_are, ones_few}
use Rattle.rows.proofs.ones_below.Goals as goal

pub returns : goal.returns
returns c = search (rules, ones_are, ones_few)
