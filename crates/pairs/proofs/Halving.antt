-- A search by halving: two places bracket the one at which numbers pass q, and each turn halves how far they are apart.
-- Assumes nothing.
use mathlib.Core.Path.{◌≡◌}
use mathlib.Core.Logic.{⊎_elim}
use mathlib.Core.Bool.{Bool}
use Prim.Native.Nat.{ℕ, zero, suc, ◌+◌, ◌-◌, ◌/◌, ◌^◌, ◌≤◌, ◌<◌}
use native.Mathlib.Omega.{arith}
use native.Mathlib.Nat.{pow-suc}
use lib.Dec.{leb}
use lib.Pow.{pow_pos}
use borrow.Author.Tests.{leb-true, le-leb}
use Rattle.rules.specs.Counting.{first}
use Rattle.rules.proofs.Bools.{clash, below_or}
use Rattle.rules.proofs.Counting.{first_le, first_before, first_at}
use Rattle.pairs.specs.Halving.{Passes, halvings}

-- ---- the place

pub record Bracket (f : ℕ → ℕ) (rows q lo hi : ℕ) : Type 0 where
  pub apart : lo < hi
  pub within : hi ≤ rows
  pub begun : f lo ≤ q
  pub ahead : q < f hi

module _ (f : ℕ → ℕ) (rows q : ℕ) where
  pub bracket_start : f 0 ≤ q → q < f rows → Bracket f rows q 0 rows
  bracket_start from to = record { apart = some rows to; within = omega arith; begun = from; ahead = to }
    where
      some : (rows : ℕ) → q < f rows → 0 < rows
      some zero to = absurd (omega arith)
      some (suc rows) to = omega arith

  -- once nothing is between them, the lower is the place
  pub bracket_end : (lo hi : ℕ) → Bracket f rows q lo hi → hi - lo ≤ 1 → Passes f rows q lo
  bracket_end lo hi b h =
      let next : hi ≡ suc lo = omega arith in
      record { below = omega arith; begun = b.begun; ahead = rw next at b.ahead }

-- the place in the middle takes the place of one of them
module _ (f : ℕ → ℕ) (rows q lo hi number : ℕ) (b : Bracket f rows q lo hi) (l : 1 < hi - lo) (e : number ≡ f (lo + (hi - lo) / 2)) where
  pub bracket_up : number ≤ q → Bracket f rows q (lo + (hi - lo) / 2) hi
  bracket_up t = record { apart = omega arith; within = b.within; begun = omega arith; ahead = b.ahead }

  pub bracket_down : q < number → Bracket f rows q lo (lo + (hi - lo) / 2)
  bracket_down t = record { apart = omega arith; within = omega arith; begun = b.begun; ahead = omega arith }

-- ---- the turns

above : (w : ℕ) → w < 2 ^ w
above zero = pow_pos 0
above (suc w) = omega (arith, above w, pow-suc 2 w)

abbrev reaches : ℕ → ℕ → Bool
reaches w t = leb w (2 ^ t)

-- so many turns are enough, and no more than the logarithm
pub halved_to_one : (w : ℕ) → w ≤ 2 ^ halvings w
unfolding halvings
halved_to_one w =
    ⊎_elim (λ l. leb-true _ _ (first_at w (reaches w) l)) (λ l. rw (all l) (omega (arith, above w))) (below_or (first w (reaches w)) w)
  where
    all : w ≤ first w (reaches w) → first w (reaches w) ≡ w
    all l = omega (arith, first_le w (reaches w))

pub few_turns : (w t : ℕ) → w ≤ 2 ^ t → halvings w ≤ t
unfolding halvings
few_turns w t h =
    ⊎_elim (λ l. clash (le-leb _ _ h) (first_before w (reaches w) t l)) (λ l. l) (below_or t (first w (reaches w)))

-- a bracket of which one half is left has a turn less before it
pub half_sooner : {w h : ℕ} → 1 < w → h ≤ w - w / 2 → halvings h < halvings w
half_sooner {w} {h} l k = sooner (halvings w) (halved_to_one w)
  where
    sooner : (t : ℕ) → w ≤ 2 ^ t → halvings h < t
    sooner zero m = absurd (omega arith)
    sooner (suc t) m = omega (arith, few_turns h t (omega (arith, pow-suc 2 t)))
