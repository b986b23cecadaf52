-- `literals::put_end` meets its contract.
-- Assumes nothing.
use Rattle.lines.proofs.Writes.{end_written}
use borrow.Author.Rules.{rules}
use Rattle.lines.proofs.literals.put_end.Goals as goal

pub returns : goal.returns
returns c = search (rules, end_written)
