-- `finish` meets its contract.
-- Assumes nothing.
use borrow.Author.Rules.{rules}
use Rattle.translator.proofs.RoomLaws.{room_ready}
use Rattle.translator.proofs.ending.finish.Goals as goal

pub end_reading-requires : goal.end_reading-requires
end_reading-requires c = search (rules, room_ready)
