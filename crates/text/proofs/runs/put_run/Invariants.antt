-- `runs::put_run` meets its contract. The loop's invariant: the lines so far are written.
-- Assumes nothing.
use Prim.Native.Nat.{◌+◌, ◌-◌}
use Rattle.text.proofs.Running.{Running}
use Rattle.text.proofs.runs.put_run.Given as goal

abbrev pub invariant-loop-lines : goal.invariant-loop-lines
invariant-loop-lines l = Running l.asked.task.file.now l.initial.out l.asked.horizon l.all l.c l.lines l.out l.at

abbrev pub decreases-loop-lines : goal.decreases-loop-lines
decreases-loop-lines l = l.all - (l.c + l.lines)
