-- `hold` meets its contract: what is left of the bytes comes to the same for every reading.
-- Assumes nothing.
use Prim.Native.Nat.{◌+◌}
use Rattle.translator.specs.Intake.{SameRest}
use Rattle.translator.proofs.holding.hold.Given as goal

abbrev pub invariant-loop-i : goal.invariant-loop-i
invariant-loop-i l = SameRest l.bytes l.at l.held l.initial.line (l.at + l.i) (l.held + l.i) l.line
