-- `stays::note_given` meets its contract. The loop's invariant: what the actions so far give is noted.
-- Assumes nothing.
use Rattle.rules.specs.File.{task_of}
use Rattle.lines.proofs.Noting.{Noting}
use Rattle.lines.proofs.stays.note_given.Given as goal

abbrev pub invariant-loop-a : goal.invariant-loop-a
invariant-loop-a l = Noting (task_of l.task.file.now) l.x l.all l.a l.given
