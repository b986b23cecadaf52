-- `precondition` meets its contract.
-- Assumes nothing.
use borrow.Author.Rules.{rules}
use Rattle.task.proofs.Bytes.{precondition_there, precondition_variable, precondition_value}
use Rattle.task.proofs.asked.precondition.Goals as goal

pub pair_behind-requires : goal.pair_behind-requires
pair_behind-requires c = search (rules, precondition_there)

pub returns : goal.returns
returns c = search (rules, precondition_variable, precondition_value)
