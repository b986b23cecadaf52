-- `lines_in` meets its contract.
-- Assumes nothing.
use borrow.Author.Rules.{rules}
use Rattle.model.proofs.Ways.{lines_are}
use Rattle.model.proofs.parts.lines_in.Goals as goal

pub returns : goal.returns
returns c = search (rules, lines_are)
