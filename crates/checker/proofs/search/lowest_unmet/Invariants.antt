-- `lowest_unmet` meets its contract. The loop's invariant: the search has come to the family, and found nothing unmet before it.
-- Assumes nothing.
use Rattle.rows.specs.Lent.{lent}
use Rattle.checker.specs.Order.{Reached}
use Rattle.checker.proofs.search.lowest_unmet.Given as goal

abbrev pub invariant-loop-family : goal.invariant-loop-family
invariant-loop-family l = Reached l.asked.task.file.now l.asked.task.index.now (lent l.given l.truth) l.asked.horizon l.family-index 0 0 l.at
