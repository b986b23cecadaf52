-- `literals::put_change` meets its contract.
-- Assumes nothing.
use Rattle.lines.proofs.Writes.{change_written}
use borrow.Author.Rules.{rules}
use Rattle.lines.proofs.literals.put_change.Goals as goal

pub returns-clause-written : goal.returns-clause-written
returns-clause-written c = search (rules, change_written)
