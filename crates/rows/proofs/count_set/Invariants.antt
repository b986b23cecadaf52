-- `count_set` meets its contract: as far as the loop has come, the set variables are counted.
-- Assumes nothing.
use mathlib.Core.Path.{◌≡◌}
use Prim.Native.Nat.{◌-◌, ◌≤◌}
use Rattle.rows.specs.Bits.{counts_true}
use Rattle.rows.specs.Lent.{lent}
use Rattle.rows.specs.Stretch.{count_set}
use Rattle.rows.proofs.count_set.Given as goal

abbrev pub invariant-loop-done : goal.invariant-loop-done
invariant-loop-done l = (l.done ≤ l.many) × (l.count ≤ l.done) × (l.count ≡ count_set (counts_true l.unnamed (lent l.given l.truth)) l.from l.done)

abbrev pub decreases-loop-done : goal.decreases-loop-done
decreases-loop-done l = l.many - l.done
