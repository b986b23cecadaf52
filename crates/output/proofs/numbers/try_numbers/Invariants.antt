-- `try_numbers` meets its contract: what is left of the line, tried from where the loop is, comes to the trial of the whole.
-- Assumes nothing.
use mathlib.Core.Bool.{false}
use mathlib.Core.Path.{◌≡◌}
use Prim.Native.Nat.{◌-◌}
use lib.ListN.{length, drop}
use Rattle.rules.specs.Text.{space}
use Rattle.lent_bytes.specs.Words.{pieces_behind}
use Rattle.output.specs.Trial.{trial, first_gap, number_pieces}
use Rattle.output.proofs.numbers.try_numbers.Given as goal

abbrev pub invariant-loop-gap : goal.invariant-loop-gap
invariant-loop-gap l = (length l.given ≡ length l.initial.given) × (trial l.highest l.given l.gap l.closed (pieces_behind space (drop l.gap l.line)) ≡ trial l.highest l.initial.given first_gap false (number_pieces l.line))

abbrev pub decreases-loop-gap : goal.decreases-loop-gap
decreases-loop-gap l = length l.line - l.gap
