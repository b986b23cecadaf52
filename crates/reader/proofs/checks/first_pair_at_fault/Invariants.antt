-- `first_pair_at_fault` meets its contract. The loop's invariant: no pair before i is at fault.
-- Assumes nothing.
use mathlib.Core.Path.{◌≡◌}
use Rattle.rules.specs.Counting.{first}
use Rattle.rules.specs.Task.{pair_at_fault}
use Rattle.rules.specs.File.{pairs_at}
use Rattle.reader.specs.Bodies.{sized}
use Rattle.reader.proofs.checks.first_pair_at_fault.Given as goal

abbrev pub invariant-loop-i : goal.invariant-loop-i
invariant-loop-i l = (first l.i (pair_at_fault (sized l.sizes) (pairs_at l.s l.at l.count)) ≡ l.i)
