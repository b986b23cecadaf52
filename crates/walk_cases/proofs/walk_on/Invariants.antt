-- `walk_on` ends and is safe: each action takes two bytes or more.
-- Assumes nothing.
use Prim.Native.Nat.{◌≤◌, ◌+◌, ◌-◌}
use lib.ListN.{length}
use Rattle.walk_cases.proofs.walk_on.Given as goal

abbrev pub invariant-loop-at : goal.invariant-loop-at
invariant-loop-at g l = l.at ≤ length l.actions + 1023

abbrev pub decreases-loop-at : goal.decreases-loop-at
decreases-loop-at g l = length l.actions - l.at
