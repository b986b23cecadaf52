-- `bodies::keep_effect` meets its contract.
-- Assumes nothing.
use borrow.Author.Rules.{rules}
use Rattle.bodies.proofs.KeepSound.{sound_effect}
use Rattle.bodies.proofs.Keep.{effect_not_kept, effect_kept_lem, room_below}
use Rattle.bodies.proofs.keep_effect.Goals as goal

pub returns-then-not-one_fits : goal.returns-then-not-one_fits
returns-then-not-one_fits c = search (rules, effect_not_kept)

pub returns : goal.returns
returns c = search (rules, effect_kept_lem, sound_effect, room_below)
