-- `clauses::put_all_values` meets its contract. The loop's invariant: the values so far are written.
-- Assumes nothing.
use Rattle.lines.proofs.ByPlace.{ValuesPut}
use Rattle.lines.proofs.clauses.put_all_values.Given as goal

abbrev pub invariant-loop-v : goal.invariant-loop-v
invariant-loop-v l = ValuesPut l.asked.task.file.now l.asked.horizon l.s l.x l.initial.out l.at l.count l.v l.out l.end
