-- `start` meets its contract. The loop's invariant: the values before x are the start body's.
-- Assumes nothing.
use mathlib.Core.Path.{◌≡◌}
use lib.ListN.{length}
use Rattle.rules.specs.Limits.{max_variables}
use Rattle.walk.proofs.Loops.{Filled}
use Rattle.walk.proofs.start.Given as goal

abbrev pub invariant-loop-x : goal.invariant-loop-x
invariant-loop-x l = (length l.values ≡ max_variables) × Filled l.body l.values l.x
