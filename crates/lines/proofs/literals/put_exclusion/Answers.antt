-- `literals::put_exclusion` meets its contract.
-- Assumes nothing.
use Rattle.lines.proofs.Writes.{pair_written}
use borrow.Author.Rules.{rules}
use Rattle.lines.proofs.literals.put_exclusion.Goals as goal

pub returns : goal.returns
returns c = search (rules, pair_written)
