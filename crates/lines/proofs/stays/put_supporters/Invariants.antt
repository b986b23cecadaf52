-- `stays::put_supporters` meets its contract. The loop's invariant: the literals of the actions so far are written.
-- Assumes nothing.
use Rattle.lines.proofs.Supported.{SupportersPut}
use Rattle.lines.proofs.stays.put_supporters.Given as goal

abbrev pub invariant-loop-a : goal.invariant-loop-a
invariant-loop-a l = SupportersPut l.asked.task.file.now l.asked.horizon l.s l.x l.v l.initial.out l.at l.a l.out l.end
