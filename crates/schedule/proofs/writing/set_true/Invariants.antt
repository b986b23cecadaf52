-- `set_true` meets its contract. The loop's invariant: all that is true at the steps before s is set, and the state is that of step s.
-- Assumes nothing.
use mathlib.Core.Path.{◌≡◌}
use lib.ListN.{length}
use Rattle.rules.specs.File.{task_of}
use Rattle.rules.specs.Walk.{state_at}
use Rattle.task.specs.Numbers.{at_any_horizon}
use Rattle.schedule.specs.Written.{steps_set}
use Rattle.schedule.proofs.writing.set_true.Given as goal

abbrev pub invariant-loop-s : goal.invariant-loop-s
invariant-loop-s l = (length l.row ≡ length l.initial.row)
    × (l.row ≡ steps_set (at_any_horizon l.asked.task.file.now) l.entries l.s l.initial.row)
    × (l.state.values ≡ state_at (task_of l.asked.task.file.now) l.entries l.s)
