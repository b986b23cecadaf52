-- `in_family` meets its contract. The loop's invariant: the search has come to the step, and found nothing unmet before it.
-- Assumes nothing.
use Rattle.rows.specs.Lent.{lent}
use Rattle.checker.specs.Order.{Reached}
use Rattle.checker.proofs.search.in_family.Given as goal
use Rattle.task.specs.Families.{number_of_family}

abbrev pub invariant-loop-step : goal.invariant-loop-step
invariant-loop-step l = Reached l.asked.task.file.now l.asked.task.index.now (lent l.given l.truth) l.asked.horizon (number_of_family l.family) l.step 0 l.at
