-- `set_values` meets its contract. The loop's invariant: the values of the variables before x are set.
-- Assumes nothing.
use mathlib.Core.Path.{◌≡◌}
use lib.ListN.{length}
use Rattle.task.specs.Numbers.{at_any_horizon}
use Rattle.schedule.specs.Written.{values_set}
use Rattle.schedule.proofs.writing.set_values.Given as goal

abbrev pub invariant-loop-x : goal.invariant-loop-x
invariant-loop-x l = (length l.row ≡ length l.initial.row) × (l.row ≡ values_set (at_any_horizon l.task.file.now) l.step l.values l.x l.initial.row)
