-- `first_start_at_fault` meets its contract. The loop's invariant: no start value before x is at fault.
-- Assumes nothing.
use mathlib.Core.Path.{◌≡◌}
use Rattle.rules.specs.Counting.{first}
use Rattle.rules.specs.Task.{start_at_fault}
use mathlib.Core.List.{[]}
use Rattle.reader.specs.Bodies.{task_in}
use Rattle.reader.proofs.checks.first_start_at_fault.Given as goal

abbrev pub invariant-loop-x : goal.invariant-loop-x
invariant-loop-x l = (first l.x (start_at_fault (task_in l.sizes l.start [] [])) ≡ l.x)
