-- `all_clauses` meets its contract. The loop's invariant: so many clauses stand before the family.
-- Assumes nothing.
use mathlib.Core.Path.{◌≡◌}
use Rattle.rules.specs.File.{task_of}
use Rattle.rules.proofs.ByNumber.{clauses_before}
use Rattle.checker.proofs.search.all_clauses.Given as goal

abbrev pub invariant-loop-family : goal.invariant-loop-family
invariant-loop-family l = (l.count ≡ clauses_before (task_of l.asked.task.file.now) l.asked.horizon l.family-index)
