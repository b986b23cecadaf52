-- `supporters::put_supporters` meets its contract. The loop's invariant: those of the actions so far are written.
-- Assumes nothing.
use Prim.Native.Nat.{◌≤◌}
use Rattle.rules.specs.Problem.{problem}
use Rattle.rules.specs.File.{task_of}
use Rattle.formula.proofs.Supported.{SupportersPut}
use Rattle.formula.proofs.supporters.put_supporters.Given as goal

abbrev pub invariant-loop-a : goal.invariant-loop-a
invariant-loop-a l = (l.a ≤ l.all) × SupportersPut (problem (task_of l.asked.task.file.now) l.asked.horizon) l.s l.x l.v l.initial.out l.out l.from l.a l.at
