-- `clauses::put_stays` meets its contract.
-- Assumes nothing.
use borrow.Author.Rules.{rules}
use Rattle.formula.proofs.Spelled.{stays_room, supporters_room_lem, stays_written}
use Rattle.formula.proofs.clauses.put_stays.Goals as goal

pub put_implies-requires : goal.put_implies-requires
put_implies-requires c = search (rules, stays_room)

pub put_supporters-requires : goal.put_supporters-requires
put_supporters-requires c = search (rules, supporters_room_lem)

pub returns : goal.returns
returns c = search (rules, stays_written)
