-- `file_in` meets its contract.
-- Assumes nothing.
use borrow.Author.Rules.{rules}
use Rattle.model.proofs.Ways.{file_is}
use Rattle.model.proofs.parts.file_in.Goals as goal

pub returns : goal.returns
returns c = search (rules, file_is)
