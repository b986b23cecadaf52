-- `clauses::put_start` meets its contract.
-- Assumes nothing.
use Rattle.formula.proofs.Spelled.{start_inside}
use Rattle.lines.proofs.ByPlace.{start_line}
use borrow.Author.Rules.{rules}
use Rattle.lines.proofs.clauses.put_start.Goals as goal

pub value_at-requires : goal.value_at-requires
value_at-requires c = search (rules, start_inside)

pub returns-clause-written : goal.returns-clause-written
returns-clause-written c = search (rules, start_line)
