-- `set_pairs` meets its contract. The loop's invariant: the pairs before i are set.
-- Assumes nothing.
use mathlib.Core.Path.{◌≡◌}
use Prim.Native.Nat.{◌≤◌}
use Rattle.rules.specs.File.{pairs_at}
use Rattle.rules.specs.Walk.{set_pairs}
use Rattle.walk.proofs.set_pairs.Given as goal

abbrev pub invariant-loop-i : goal.invariant-loop-i
invariant-loop-i l = (l.i ≤ l.count) × (l.values ≡ set_pairs l.initial.values (pairs_at l.pairs l.at l.i))
