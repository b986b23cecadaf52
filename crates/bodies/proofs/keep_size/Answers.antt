-- `bodies::keep_size` meets its contract.
-- Assumes nothing.
use borrow.Author.Rules.{rules}
use Rattle.bodies.proofs.KeepSound.{sound_size}
use Rattle.bodies.proofs.Keep.{size_not_kept, size_kept, room_below}
use Rattle.bodies.proofs.keep_size.Goals as goal

pub returns-then-not-one_fits : goal.returns-then-not-one_fits
returns-then-not-one_fits c = search (rules, size_not_kept)

pub returns : goal.returns
returns c = search (rules, size_kept, sound_size, room_below)
