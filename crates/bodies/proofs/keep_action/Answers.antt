-- `bodies::keep_action` meets its contract.
-- Assumes nothing.
use borrow.Author.Rules.{rules}
use Rattle.bodies.proofs.KeepSound.{sound_action}
use Rattle.bodies.proofs.Keep.{action_not_kept, action_kept, room_below}
use Rattle.bodies.proofs.keep_action.Goals as goal

pub returns-then-not-one_fits : goal.returns-then-not-one_fits
returns-then-not-one_fits c = search (rules, action_not_kept)

pub returns : goal.returns
returns c = search (rules, action_kept, sound_action, room_below)
