-- The pair behind a number, found by halving over the closed form of how many pairs come before.
-- Assumes nothing.
use mathlib.Core.Path.{◌≡◌, refl}
use Prim.Native.Nat.{ℕ, ◌+◌, ◌-◌, ◌*◌, ◌/◌, ◌≤◌, ◌<◌}
use native.Mathlib.Omega.{arith}
use native.Mathlib.Nat.{mul-le-mul, zero-mul, le_trans, lt_of_lt_of_le, lt_of_le_of_lt}
use native.Mathlib.Numerals.{add-one}
use lib.Dec.{lit<, lit≤}
use mir.Syntax.{w64}
use mir.Val.{Fits}
use Rattle.rules.specs.Counts.{pairs_below, pairs_before}
use Rattle.rules.proofs.Counts.{pairs_all}
use Rattle.rules.proofs.Pairs.{PairAt, pair_there, pair_within}
use Rattle.rules.specs.Limits.{max_actions}
use Rattle.pairs.specs.Halving.{Passes}
use Rattle.pairs.proofs.Halving.{Bracket, bracket_start, bracket_end}

-- ---- how many

pub product_fits : (m : ℕ) → m ≤ max_actions → Fits w64 (m * (m - 1))
product_fits m h =
    let l : m - 1 ≤ max_actions = omega arith in
    record { fits = lt_of_le_of_lt (mul-le-mul h l) (lit< tt) }

pub counted : (m i : ℕ) → i * (2 * m - i - 1) / 2 ≡ pairs_before m i
unfolding pairs_before
counted m i = refl

pub doubled_fits : (m i : ℕ) → i ≤ m → m ≤ max_actions → Fits w64 (i * (2 * m - i - 1))
doubled_fits m i h l =
    let others : 2 * m - i - 1 ≤ 2 * max_actions = omega arith in
    let here : i ≤ max_actions = omega arith in
    record { fits = lt_of_le_of_lt (mul-le-mul here others) (lit< tt) }

-- ---- from a pair to its number

module _ (m i j before : ℕ) (h : i < j) (l : j < m) (e : before ≡ pairs_before m i) where
  pub is_number_lem : PairAt m (before + (j - i - 1)) i j
  is_number_lem = record { rising = h; below = l; is = omega arith }

  pub number_fits : m ≤ max_actions → Fits w64 (before + (j - i - 1))
  number_fits b = record { fits = omega (arith, pair_within m _ i j is_number_lem, (product_fits m b).fits) }

-- ---- and back

module _ (m r : ℕ) where
  pub pairs_start : r < pairs_below m → Bracket (pairs_before m) m r 0 m
  unfolding pairs_before
  pairs_start h = bracket_start (pairs_before m) m r (rw zero-mul (omega arith)) (rw (pairs_all m) h)

  module _ (lo hi start : ℕ) (b : Bracket (pairs_before m) m r lo hi) (e : start ≡ pairs_before m lo) where
    pub begun_at : start ≤ r
    begun_at = rw e b.begun

    module _ (t : hi - lo ≤ 1) where
      -- the place at which the pairs pass r is the first number of the pair
      pub pair_found : PairAt m r lo (lo + 1 + (r - start))
      pair_found =
          let p : Passes (pairs_before m) m r lo = bracket_end (pairs_before m) m r lo hi b t in
          rw (add-one lo, e) (pair_there m r lo p.below p.begun p.ahead)

      pub second_fits : m ≤ max_actions → Fits w64 (lo + 1 + (r - start))
      second_fits l = record { fits = lt_of_lt_of_le pair_found.below (le_trans l (lit≤ tt)) }
