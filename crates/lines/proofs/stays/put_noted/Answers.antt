-- `stays::put_noted` meets its contract.
-- Assumes nothing.
use Rattle.lines.proofs.ByPlace.{stays_line}
use borrow.Author.Rules.{rules}
use Rattle.lines.proofs.stays.put_noted.Goals as goal

pub returns-clause-written : goal.returns-clause-written
returns-clause-written c = search (rules, stays_line)
