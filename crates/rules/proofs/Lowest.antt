-- The lowest number at which something is false, chunk by chunk: of numbers, and of the pairs of a row of bits.
-- Assumes nothing.
use mathlib.Core.Path.{◌≡◌, refl, ap, ◌∙◌}
use mathlib.Core.Logic.{◌⊎◌, inl, inr, ⊎_elim}
use mathlib.Core.Bool.{Bool, true, false, ◌&&◌}
use Prim.Native.Nat.{ℕ, suc, ◌+◌, ◌-◌, ◌≤◌, ◌<◌}
use native.Mathlib.Omega.{arith}
use Rattle.rules.specs.Counting.{first}
use Rattle.rules.specs.Counts.{pairs_before, pairs_below}
use Rattle.rules.proofs.Bools.{and_both, below_or}
use Rattle.rules.proofs.Counting.{first_before, first_at, first_none, first_is, sum_to-part}
use Rattle.rules.proofs.Counts.{pairs_before_lem}
use Rattle.rules.proofs.Pairs.{PairAt, pair_exists, pair_within}

not_both : (a c : Bool) → (a ≡ true → c ≡ true → ⊥) → (a && c) ≡ false
not_both true true h = absurd (h refl refl)
not_both true false h = refl
not_both false c h = refl

and_not : (a c : Bool) → (a ≡ false) ⊎ (c ≡ false) → (a && c) ≡ false
and_not a c (inl h) = rw h
and_not true c (inr h) = h
and_not false c (inr h) = refl

-- a pair of a later row stands later, and in one row the smaller second number stands first
later_row : (m r i j r' i' j' : ℕ) → PairAt m r i j → PairAt m r' i' j' → i < i' → r' < r → ⊥
later_row m r i j r' i' j' p p' h l =
    let below_i : i ≤ m = omega (arith, p.rising, p.below) in
    let below_i' : i' ≤ m = omega (arith, p'.rising, p'.below) in
    let row = sum_to-part i' (λ t. m - suc t) i h in
    omega (arith, row, pairs_before_lem m i below_i, pairs_before_lem m i' below_i', p.is, p'.is, p.rising, p.below)

same_row : (m r i j r' i' j' : ℕ) → PairAt m r i j → PairAt m r' i' j' → i' ≡ i → r' < r → j' < j
same_row m r i j r' i' j' p p' e l =
    let start : pairs_before m i' ≡ pairs_before m i = ap (pairs_before m) e in
    omega (arith, p.is, p'.is, p.rising, p'.rising)

-- ---- numbers: none below at, then a chunk of m more

module _ (q : ℕ → Bool) (at m : ℕ) (none : first at q ≡ at) where
  before_chunk : (i : ℕ) → i < at → q i ≡ false
  before_chunk i l = first_before at q i (omega arith)

  -- none in the chunk either
  pub chunk_passed : first m (λ j. q (at + j)) ≡ m → first (at + m) q ≡ at + m
  chunk_passed h =
      first_none (at + m) q (λ i l.
      ⊎_elim (λ b. before_chunk i b)
      (λ b. let e : i ≡ at + (i - at) = omega arith in ap q e ∙ first_before m (λ j. q (at + j)) (i - at) (omega arith))
      (below_or i at))

  -- the first of the chunk is the first of all, however far one looks on
  pub chunk_found : (bound : ℕ) → first m (λ j. q (at + j)) < m → at + m ≤ bound → first bound q ≡ at + first m (λ j. q (at + j))
  chunk_found bound h b =
      first_is bound q (at + first m (λ j. q (at + j))) (omega arith) (first_at m (λ j. q (at + j)) h) (λ i l.
      ⊎_elim (λ r. before_chunk i r)
      (λ r. let e : i ≡ at + (i - at) = omega arith in ap q e ∙ first_before m (λ j. q (at + j)) (i - at) (omega arith))
      (below_or i at))

-- ---- pairs i < j below m, in their order, of which both bits are set

module _ (m : ℕ) (b q : ℕ → Bool) (reads : (r i j : ℕ) → PairAt m r i j → q r ≡ (b i && b j)) where
  -- where no two bits are set there is no such pair
  pub no_pair : ((i j : ℕ) → i < j → j < m → b i ≡ true → b j ≡ true → ⊥) → first (pairs_below m) q ≡ pairs_below m
  no_pair none =
      first_none (pairs_below m) q (λ r l.
      let p = pair_exists m r l in
      reads r p.0 p.1 p.2 ∙ not_both (b p.0) (b p.1) (none p.0 p.1 p.2.rising p.2.below))

  -- the first pair is that of the first two bits
  pub first_pair : (r i j : ℕ) → PairAt m r i j → b i ≡ true → b j ≡ true
      → ((t : ℕ) → t < i → b t ≡ false) → ((t : ℕ) → i < t → t < j → b t ≡ false) → first (pairs_below m) q ≡ r
  first_pair r i j at bi bj low between =
      first_is (pairs_below m) q r (pair_within m r i j at) (reads r i j at ∙ and_both (b i) (b j) bi bj) (λ r' l.
      let p = pair_exists m r' (omega (arith, pair_within m r i j at)) in
      reads r' p.0 p.1 p.2 ∙ earlier r' l p.0 p.1 p.2)
    where
      earlier : (r' : ℕ) → r' < r → (i' j' : ℕ) → PairAt m r' i' j' → (b i' && b j') ≡ false
      earlier r' l i' j' p =
          ⊎_elim (λ u. and_not (b i') (b j') (inl (low i' u)))
          (λ u.
          ⊎_elim (λ v. absurd (later_row m r i j r' i' j' at p v l))
          (λ v.
          let e : i' ≡ i = omega arith in
          and_not (b i') (b j') (inr (between j' (omega (arith, p.rising)) (same_row m r i j r' i' j' at p e l))))
          (below_or i i'))
          (below_or i' i)
