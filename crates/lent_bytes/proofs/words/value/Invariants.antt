-- `value` meets its contract: what is left of the digits goes on from the sum so far.
-- Assumes nothing.
use mathlib.Core.Path.{◌≡◌}
use Prim.Native.Nat.{◌^◌, ◌<◌}
use lib.ListN.{drop}
use Rattle.rules.specs.Lines.{value_from}
use Rattle.lent_bytes.proofs.words.value.Given as goal

abbrev pub invariant-loop-b : goal.invariant-loop-b
invariant-loop-b l = (l.sum < 256 ^ l.b-index) × (value_from l.sum (drop l.b-index l.digits) ≡ value_from 0 l.digits)
