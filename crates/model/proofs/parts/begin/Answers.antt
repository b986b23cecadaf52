-- `begin` meets its contract.
-- Assumes nothing.
use borrow.Author.Rules.{rules}
use Rattle.model.proofs.Ways.{begun_so}
use Rattle.model.proofs.parts.begin.Goals as goal

pub returns : goal.returns
returns c = search (rules, begun_so)
