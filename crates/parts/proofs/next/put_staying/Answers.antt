-- `next::put_staying` meets its contract.
-- Assumes nothing.
use Rattle.parts.proofs.Arms.{at_room, at_part}
use borrow.Author.Rules.{rules}
use Rattle.parts.proofs.next.put_staying.Goals as goal

pub put_stays-requires : goal.put_stays-requires
put_stays-requires c = search (rules, at_room)

pub returns : goal.returns
returns c = search (rules, at_part)
