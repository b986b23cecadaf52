-- `clauses::put_precondition` meets its contract.
-- Assumes nothing.
use borrow.Author.Rules.{rules}
use Rattle.formula.proofs.Spelled.{precondition_variable, precondition_value, precondition_room, precondition_written}
use Rattle.formula.proofs.clauses.put_precondition.Goals as goal

pub pair_at-second-requires : goal.pair_at-second-requires
pair_at-second-requires c = search (rules, precondition_variable, precondition_value)

pub put_implies-requires : goal.put_implies-requires
put_implies-requires c = search (rules, precondition_room)

pub returns : goal.returns
returns c = search (rules, precondition_written)
