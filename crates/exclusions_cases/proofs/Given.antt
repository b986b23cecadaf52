-- That there are so many pairs from a given one on is computed.
-- Assumes nothing.
use mathlib.Core.Path.{◌≡◌}
use mathlib.Core.Bool.{true}
use Prim.Native.Nat.{ℕ, suc, ◌+◌, ◌-◌, ◌*◌, ◌/◌, ◌≤◌}
use borrow.Author.Tests.{leb-true}
use lib.Dec.{leb}
use Rattle.rules.specs.Counts.{pairs_below, pairs_before, number_of_pair}

pub pairs_left : (count i j lines : ℕ) → leb (i * (2 * count - i - 1) / 2 + (j - suc i) + lines) (pairs_below count) ≡ true
    → number_of_pair count i j + lines ≤ pairs_below count
unfolding pairs_before
pairs_left count i j lines h = leb-true _ _ h
