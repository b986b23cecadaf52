-- `gives` meets its contract. The loop's invariant: none of the first i effects is x = v.
-- Assumes nothing.
use mathlib.Core.Path.{◌≡◌}
use Rattle.rules.specs.Counting.{first}
use Rattle.checker.specs.Staying.{effect_is}
use Rattle.checker.proofs.stays.gives.Given as goal

abbrev pub invariant-loop-i : goal.invariant-loop-i
invariant-loop-i l = first l.i (effect_is l.task.file.now l.a l.x l.v) ≡ l.i
