-- `supported` meets its contract. The loop's invariant: no action below a is named true and gives x = v.
-- Assumes nothing.
use mathlib.Core.Path.{◌≡◌}
use Prim.Native.Nat.{◌≤◌, ◌-◌}
use Rattle.rules.specs.Counting.{first}
use Rattle.rows.specs.Lent.{lent}
use Rattle.checker.specs.Staying.{supports_at}
use Rattle.checker.proofs.stays.supported.Given as goal

abbrev pub invariant-loop-a : goal.invariant-loop-a
invariant-loop-a l = (l.a ≤ l.count) × (first l.a (supports_at l.task.file.now (lent l.given l.truth) l.step l.x l.v) ≡ l.a)

abbrev pub decreases-loop-a : goal.decreases-loop-a
decreases-loop-a l = l.count - l.a
