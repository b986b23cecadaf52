-- `size` meets its contract.
-- Assumes nothing.
use borrow.Author.Rules.{rules}
use Rattle.task.proofs.Bytes.{size_there, size_asked}
use Rattle.task.proofs.asked.size.Goals as goal

pub byte_behind-requires : goal.byte_behind-requires
byte_behind-requires c = search (rules, size_there)

pub returns : goal.returns
returns c = search (rules, size_asked)
