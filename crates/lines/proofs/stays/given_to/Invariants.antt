-- `stays::given_to` meets its contract. The loop's invariant: no effect so far is of x.
-- Assumes nothing.
use mathlib.Core.Path.{◌≡◌}
use Prim.Native.Nat.{◌≤◌}
use Rattle.rules.specs.Counting.{first}
use Rattle.rules.specs.File.{task_of}
use Rattle.lines.specs.Given.{sets_it}
use Rattle.lines.proofs.stays.given_to.Given as goal

abbrev pub invariant-loop-i : goal.invariant-loop-i
invariant-loop-i l = (l.i ≤ l.count) × (first l.i (sets_it (task_of l.task.file.now) l.x l.a) ≡ l.i)
