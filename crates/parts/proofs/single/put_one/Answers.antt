-- `single::put_one` meets its contract.
-- Assumes nothing.
use Rattle.parts.proofs.OneLine.{sure_part}
use borrow.Author.Rules.{rules}
use Rattle.parts.proofs.single.put_one.Goals as goal

pub returns-then-out-at-ge-LINE_ROOM-clause-part : goal.returns-then-out-at-ge-LINE_ROOM-clause-part
returns-then-out-at-ge-LINE_ROOM-clause-part c = search (rules, sure_part)
