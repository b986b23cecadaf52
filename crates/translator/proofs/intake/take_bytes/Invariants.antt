-- `take_bytes` meets its contract: what is left of the bytes, taken from where the loop is, comes to all of them taken.
-- Assumes nothing.
use mathlib.Core.Path.{◌≡◌}
use Prim.Native.Nat.{◌-◌, ◌≤◌}
use lib.ListN.{length, drop}
use Rattle.translator.specs.Intake.{lent_in, SameParts, taken, Ready, take_all}
use Rattle.translator.proofs.intake.take_bytes.Given as goal

abbrev pub invariant-loop-at : goal.invariant-loop-at
invariant-loop-at l = SameParts l.initial.parts l.parts × Ready (taken l.reading (lent_in l.parts) l.line) × (l.at ≤ length l.bytes) × (take_all (taken l.reading (lent_in l.parts) l.line) (drop l.at l.bytes) ≡ take_all (taken l.initial.reading (lent_in l.initial.parts) l.initial.line) l.bytes)

abbrev pub decreases-loop-at : goal.decreases-loop-at
decreases-loop-at l = length l.bytes - l.at
