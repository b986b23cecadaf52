-- `stays::sets` meets its contract.
-- Assumes nothing.
use Rattle.lines.proofs.Noting.{sets_is}
use borrow.Author.Rules.{rules}
use Rattle.lines.proofs.stays.sets.Goals as goal

pub returns : goal.returns
returns c = search (rules, sets_is)
