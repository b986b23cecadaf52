-- `pair_clauses` meets its contract. The loop's invariant: none of the first i pairs makes a clause false.
-- Assumes nothing.
use mathlib.Core.Path.{◌≡◌}
use Prim.Native.Nat.{◌+◌}
use Rattle.rules.specs.Counting.{first}
use Rattle.rows.specs.Lent.{lent}
use Rattle.checker.specs.Order.{is_unmet}
use Rattle.checker.proofs.families.pair_clauses.Given as goal

abbrev pub invariant-loop-i : goal.invariant-loop-i
invariant-loop-i l = first (l.at + l.i) (is_unmet l.asked.task.file.now l.asked.horizon (lent l.given l.truth)) ≡ l.at + l.i
