-- `first_unmet` meets its contract. The loop's invariant: the pairs before i hold.
-- Assumes nothing.
use Prim.Native.Nat.{◌≤◌}
use Rattle.walk.proofs.Loops.{Met}
use Rattle.walk.proofs.first_unmet.Given as goal

abbrev pub invariant-loop-i : goal.invariant-loop-i
invariant-loop-i l = (l.i ≤ l.count) × Met l.values l.pairs l.at l.i
