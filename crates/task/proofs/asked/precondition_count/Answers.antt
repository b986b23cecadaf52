-- `precondition_count` meets its contract.
-- Assumes nothing.
use borrow.Author.Rules.{rules}
use Rattle.task.proofs.Bytes.{first_there, preconditions_asked}
use Rattle.task.proofs.asked.precondition_count.Goals as goal

pub byte_behind-requires : goal.byte_behind-requires
byte_behind-requires c = search (rules, first_there)

pub returns : goal.returns
returns c = search (rules, preconditions_asked)
