-- `first_set` meets its contract: as far as the loop has come, no variable is set.
-- Assumes nothing.
use Prim.Native.Nat.{◌-◌, ◌≤◌}
use Rattle.rows.proofs.StretchLaws.{NoneSet}
use Rattle.rows.proofs.first_set.Given as goal

abbrev pub invariant-loop-done : goal.invariant-loop-done
invariant-loop-done l = (l.done ≤ l.many) × NoneSet l.unnamed l.given l.truth l.from l.done

abbrev pub decreases-loop-done : goal.decreases-loop-done
decreases-loop-done l = l.many - l.done
