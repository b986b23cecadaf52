-- `literals::put_implication` meets its contract.
-- Assumes nothing.
use Rattle.lines.proofs.Writes.{change_ended}
use borrow.Author.Rules.{rules}
use Rattle.lines.proofs.literals.put_implication.Goals as goal

pub returns-clause-written : goal.returns-clause-written
returns-clause-written c = search (rules, change_ended)
