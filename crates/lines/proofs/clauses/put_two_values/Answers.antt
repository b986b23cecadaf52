-- `clauses::put_two_values` meets its contract.
-- Assumes nothing.
use Rattle.lines.proofs.ByPlace.{two_values-line}
use borrow.Author.Rules.{rules}
use Rattle.lines.proofs.clauses.put_two_values.Goals as goal

pub returns-clause-written : goal.returns-clause-written
returns-clause-written c = search (rules, two_values-line)
