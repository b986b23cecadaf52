-- `decimal` meets its contract.
-- Assumes nothing.
use Prim.Native.Nat.{◌≤◌}
use Rattle.task_cases.proofs.decimal.Given as goal

abbrev pub invariant-loop-b : goal.invariant-loop-b
invariant-loop-b l = l.n ≤ 1000000
