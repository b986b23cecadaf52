-- `bodies::keep_start` meets its contract.
-- Assumes nothing.
use borrow.Author.Rules.{rules}
use Rattle.bodies.proofs.KeepSound.{sound_start}
use Rattle.bodies.proofs.Keep.{start_not_kept, start_kept, room_below}
use Rattle.bodies.proofs.keep_start.Goals as goal

pub returns-then-not-one_fits : goal.returns-then-not-one_fits
returns-then-not-one_fits c = search (rules, start_not_kept)

pub returns : goal.returns
returns c = search (rules, start_kept, sound_start, room_below)
