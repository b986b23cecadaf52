-- `write_numbers` meets its contract: what is left of the line, written into the row as it is now, comes to the whole.
-- Assumes nothing.
use mathlib.Core.Path.{◌≡◌}
use Prim.Native.Nat.{◌-◌}
use lib.ListN.{length, drop}
use Rattle.rules.specs.Text.{space}
use Rattle.lent_bytes.specs.Words.{pieces_behind}
use Rattle.output.specs.Trial.{rewritten, first_gap, number_pieces}
use Rattle.output.proofs.numbers.write_numbers.Given as goal

abbrev pub invariant-loop-gap : goal.invariant-loop-gap
invariant-loop-gap l = (length l.row ≡ length l.initial.row) × (rewritten l.signs l.stop l.row l.gap (pieces_behind space (drop l.gap l.line)) ≡ rewritten l.signs l.stop l.initial.row first_gap (number_pieces l.line))

abbrev pub decreases-loop-gap : goal.decreases-loop-gap
decreases-loop-gap l = length l.line - l.gap
