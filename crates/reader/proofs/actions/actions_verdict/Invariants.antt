-- `actions_verdict` meets its contract. The loop's invariant: the reading stands before action a, and no action before it is at fault.
-- Assumes nothing.
use mathlib.Core.Path.{◌≡◌}
use Prim.Native.Nat.{◌≤◌, ◌-◌}
use lib.ListN.{length}
use Rattle.rules.specs.Counting.{first}
use Rattle.rules.specs.Limits.{max_actions}
use Rattle.rules.proofs.Rests.{Reached}
use Rattle.reader.proofs.ReadActions.{at_fault}
use Rattle.reader.proofs.actions.actions_verdict.Given as goal

abbrev pub invariant-loop-at : goal.invariant-loop-at
invariant-loop-at l = Reached l.actions l.at l.a × (l.a ≤ max_actions) × (first l.a (at_fault l.sizes l.actions) ≡ l.a)

abbrev pub decreases-loop-at : goal.decreases-loop-at
decreases-loop-at l = length l.actions - l.at
