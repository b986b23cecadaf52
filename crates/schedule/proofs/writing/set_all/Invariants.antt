-- `set_all` meets its contract. The loop's invariant: the variables 1 to i are set.
-- Assumes nothing.
use mathlib.Core.Path.{◌≡◌}
use lib.ListN.{length}
use Rattle.schedule.specs.Written.{all_set}
use Rattle.schedule.proofs.writing.set_all.Given as goal

abbrev pub invariant-loop-i : goal.invariant-loop-i
invariant-loop-i l = (length l.row ≡ length l.initial.row) × (l.row ≡ all_set l.i l.initial.row)
