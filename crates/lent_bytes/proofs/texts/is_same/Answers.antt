-- `is_same` meets its contract.
-- Assumes nothing.
use borrow.Author.Rules.{rules}
use Rattle.lent_bytes.proofs.SameLaws.{same_is}
use Rattle.lent_bytes.proofs.texts.is_same.Goals as goal

pub returns : goal.returns
returns c = search (rules, same_is)
