-- `clauses::put_all_values` meets its contract. The loop's invariant: the values so far are written.
-- Assumes nothing.
use mathlib.Core.Path.{◌≡◌}
use Prim.Native.Nat.{◌≤◌}
use lib.ListN.{length}
use Rattle.rules.specs.Problem.{problem}
use Rattle.rules.specs.File.{task_of}
use Rattle.formula.specs.Front.{written, values_to}
use Rattle.formula.proofs.clauses.put_all_values.Given as goal

abbrev pub invariant-loop-v : goal.invariant-loop-v
invariant-loop-v l = (l.v ≤ l.count) × (l.count ≤ length l.out) × (length l.out ≡ length l.initial.out) × (l.out ≡ written l.initial.out 0 (values_to (problem (task_of l.asked.task.file.now) l.asked.horizon) l.s l.x l.v))
