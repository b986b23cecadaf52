-- `calls::header_indexed` meets its contract.
-- Assumes nothing.
use Rattle.text.proofs.Answered.{header_room-said, header_room-left, header_said, header_left}
use borrow.Author.Rules.{rules}
use Rattle.text.proofs.calls.header_indexed.Goals as goal

pub returns-then-out-bytes : goal.returns-then-out-bytes
returns-then-out-bytes c = (search (rules, header_room-said), search (rules, header_room-left))

pub returns : goal.returns
returns c = (search (rules, header_said), search (rules, header_left))
