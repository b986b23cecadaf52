-- `count_actions` meets its contract. The loop's invariant: the reading stands before action a.
-- Assumes nothing.
use Prim.Native.Nat.{◌≤◌, ◌-◌}
use lib.ListN.{length}
use Rattle.rules.proofs.Rests.{Reached}
use Rattle.task.proofs.filling.count_actions.Given as goal

abbrev pub invariant-loop-at : goal.invariant-loop-at
invariant-loop-at l = Reached l.actions l.at l.a × (l.a ≤ l.at) × (l.at ≤ length l.actions)

abbrev pub decreases-loop-at : goal.decreases-loop-at
decreases-loop-at l = length l.actions - l.at
