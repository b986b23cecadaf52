-- `in_step` meets its contract. The loop's invariant: the search has come to item i, and found nothing unmet before it.
-- Assumes nothing.
use Rattle.rows.specs.Lent.{lent}
use Rattle.checker.specs.Order.{Reached}
use Rattle.checker.proofs.search.in_step.Given as goal
use Rattle.task.specs.Families.{number_of_family}

abbrev pub invariant-loop-i : goal.invariant-loop-i
invariant-loop-i l = Reached l.asked.task.file.now l.asked.task.index.now (lent l.given l.truth) l.asked.horizon (number_of_family l.family) l.step l.i l.at
