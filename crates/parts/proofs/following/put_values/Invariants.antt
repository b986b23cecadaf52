-- `following::put_values` meets its contract. The loop's invariant: the lines so far are written.
-- Assumes nothing.
use Rattle.parts.proofs.InTurn.{LinesPut, stays_from}
use Rattle.parts.proofs.following.put_values.Given as goal

abbrev pub invariant-loop-lines : goal.invariant-loop-lines
invariant-loop-lines l = LinesPut l.asked.task.file.now l.asked.horizon (stays_from l.s l.x l.v) l.initial.out l.at l.left l.lines l.out l.end
