-- `families::count_clauses` meets its contract. The loop's invariant: the sum is that of the families so far.
-- Assumes nothing.
use mathlib.Core.Path.{◌≡◌}
use Rattle.rules.specs.File.{task_of}
use Rattle.rules.proofs.ByNumber.{clauses_before}
use Rattle.formula.proofs.families.count_clauses.Given as goal

abbrev pub invariant-loop-family : goal.invariant-loop-family
invariant-loop-family l = l.sum ≡ clauses_before (task_of l.asked.task.file.now) l.asked.horizon l.family-index
