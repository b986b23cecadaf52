-- `bodies::keep_goal` meets its contract.
-- Assumes nothing.
use borrow.Author.Rules.{rules}
use Rattle.bodies.proofs.KeepSound.{sound_goal}
use Rattle.bodies.proofs.Keep.{goal_not_kept, goal_kept, room_below}
use Rattle.bodies.proofs.keep_goal.Goals as goal

pub returns-then-not-one_fits : goal.returns-then-not-one_fits
returns-then-not-one_fits c = search (rules, goal_not_kept)

pub returns : goal.returns
returns c = search (rules, goal_kept, sound_goal, room_below)
