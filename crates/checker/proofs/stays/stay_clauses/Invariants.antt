-- `stay_clauses` meets its contract. The loop's invariant: no value below v changes alone.
-- Assumes nothing.
use mathlib.Core.Path.{◌≡◌}
use Prim.Native.Nat.{◌+◌}
use Rattle.rules.specs.Counting.{first}
use Rattle.rows.specs.Lent.{lent}
use Rattle.checker.specs.Order.{is_unmet}
use Rattle.checker.proofs.stays.stay_clauses.Given as goal

abbrev pub invariant-loop-v : goal.invariant-loop-v
invariant-loop-v l = (first (l.at + l.v) (is_unmet l.asked.task.file.now l.asked.horizon (lent l.given l.truth)) ≡ l.at + l.v)
