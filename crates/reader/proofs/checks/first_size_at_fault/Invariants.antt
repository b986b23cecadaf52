-- `first_size_at_fault` meets its contract. The loop's invariant: no size before x is at fault.
-- Assumes nothing.
use mathlib.Core.Path.{◌≡◌}
use Rattle.rules.specs.Counting.{first}
use Rattle.rules.specs.Task.{size_at_fault}
use Rattle.reader.specs.Bodies.{sized}
use Rattle.reader.proofs.checks.first_size_at_fault.Given as goal

abbrev pub invariant-loop-x : goal.invariant-loop-x
invariant-loop-x l = (first l.x (size_at_fault (sized l.sizes)) ≡ l.x)
