-- `literals::put_single` meets its contract.
-- Assumes nothing.
use Rattle.lines.proofs.Writes.{single_written}
use borrow.Author.Rules.{rules}
use Rattle.lines.proofs.literals.put_single.Goals as goal

pub returns : goal.returns
returns c = search (rules, single_written)
