-- `clauses::put_precondition` meets its contract.
-- Assumes nothing.
use Rattle.formula.proofs.Spelled.{precondition_variable, precondition_value}
use Rattle.lines.proofs.ByPlace.{precondition_line}
use borrow.Author.Rules.{rules}
use Rattle.lines.proofs.clauses.put_precondition.Goals as goal

pub pair_at-second-requires : goal.pair_at-second-requires
pair_at-second-requires c = search (rules, precondition_variable, precondition_value)

pub returns-clause-written : goal.returns-clause-written
returns-clause-written c = search (rules, precondition_line)
