-- `bodies::keep_precondition` meets its contract.
-- Assumes nothing.
use borrow.Author.Rules.{rules}
use Rattle.bodies.proofs.KeepSound.{sound_precondition}
use Rattle.bodies.proofs.Keep.{precondition_not_kept, precondition_kept, room_below}
use Rattle.bodies.proofs.keep_precondition.Goals as goal

pub returns-then-not-one_fits : goal.returns-then-not-one_fits
returns-then-not-one_fits c = search (rules, precondition_not_kept)

pub returns : goal.returns
returns c = search (rules, precondition_kept, sound_precondition, room_below)
