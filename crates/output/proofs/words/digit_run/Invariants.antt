-- `digit_run` meets its contract: all bytes that the loop has passed are digits, and their value is the sum so far.
-- Assumes nothing.
use mathlib.Core.Path.{◌≡◌}
use Prim.Native.Nat.{◌^◌, ◌<◌}
use lib.ListN.{take}
use Rattle.rules.specs.Lines.{value_from}
use Rattle.output.proofs.WordLaws.{AllDigits}
use Rattle.output.proofs.words.digit_run.Given as goal

abbrev pub invariant-loop-i : goal.invariant-loop-i
invariant-loop-i l = AllDigits l.bytes l.i × (l.value < 256 ^ l.i) × (l.value ≡ value_from 0 (take l.i l.bytes))
