-- `schedule_verdict` meets its contract. The loop's invariant: the first s entries have been carried out, and none of them could not be.
-- Assumes nothing.
use Rattle.rules.specs.File.{task_of}
use Rattle.schedule.proofs.WalkLaws.{CameTo}
use Rattle.schedule.proofs.walking.schedule_verdict.Given as goal

abbrev pub invariant-loop-s : goal.invariant-loop-s
invariant-loop-s l = CameTo (task_of l.asked.task.file.now) l.entries l.s l.state.values
