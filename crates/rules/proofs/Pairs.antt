-- The pair behind a number: where the pair i < j below m stands among all such pairs, and that each number below their count has one pair.
-- Assumes nothing.
use mathlib.Core.Path.{◌≡◌, sym, ap, ◌∙◌}
use mathlib.Core.List.{[], ◌∷◌}
use Prim.Native.Nat.{ℕ, suc, ◌+◌, ◌-◌, ◌≤◌, ◌<◌}
use native.Mathlib.Omega.{arith}
use lib.ListN.{get_or}
use Rattle.rules.specs.Counting.{sum_to, table, for_pairs}
use Rattle.rules.specs.Counts.{pairs_below, pairs_before}
pub use Rattle.rules.specs.Counts.{PairAt}
use Rattle.rules.proofs.Counting.{length-table, get_or-table, Located, locate, same_part}
use Rattle.rules.proofs.Counts.{pairs_before_lem, pairs_all}
use Rattle.rules.proofs.Places.{within_each, get_or-each}

-- how many numbers above i are below m: so many pairs have the first number i
abbrev above : ℕ → ℕ → ℕ
above m i = m - suc i

-- j is one of them, at the place j - suc i
record IsAbove (m i j : ℕ) : Type 0 where
  first_below : i < m
  first_within : i ≤ m
  place_below : j - suc i < above m i
  at_place : suc i + (j - suc i) ≡ j

is_above : (m i j : ℕ) → i < j → j < m → IsAbove m i j
is_above m i j l h = record { first_below = omega arith; first_within = omega arith; place_below = omega arith; at_place = omega arith }

-- ---- from the number to the pair

pub pairs_next : (m i : ℕ) → i < m → pairs_before m (suc i) ≡ pairs_before m i + above m i
unfolding sum_to
pairs_next m i h = sym (pairs_before_lem m (suc i) h) ∙ ap (λ p. p + above m i) (pairs_before_lem m i (omega arith))

-- the number i whose pairs begin at or before r and end behind it is the first of the pair, and the second follows from it
pub pair_there : (m r i : ℕ) → i < m → pairs_before m i ≤ r → r < pairs_before m (suc i) → PairAt m r i (suc i + (r - pairs_before m i))
pair_there m r i h from to =
    let row = pairs_next m i h in
    record { rising = omega arith; below = omega arith; is = omega arith }

pub pair_exists : (m r : ℕ) → r < pairs_below m → (i : ℕ) × (j : ℕ) × PairAt m r i j
pair_exists m r h =
    let l : Located m (above m) r = locate m (above m) r (rw (pairs_before_lem m m (omega arith), pairs_all m) h) in
    let start : sum_to l.part (above m) ≡ pairs_before m l.part = pairs_before_lem m l.part (omega arith) in
    (l.part, suc l.part + l.place, record { rising = omega arith; below = omega arith; is = omega arith })

-- ---- from the pair to its number

is_there : (m r i j : ℕ) → PairAt m r i j → r ≡ sum_to i (above m) + (j - suc i)
is_there m r i j p =
    p.is ∙ ap (λ start. start + (j - suc i)) (sym (pairs_before_lem m i (is_above m i j p.rising p.below).first_within))

pub pair_within : (m r i j : ℕ) → PairAt m r i j → r < pairs_below m
pair_within m r i j p =
    let q = is_above m i j p.rising p.below in
    rw (is_there m r i j p, ← pairs_all m, ← pairs_before_lem m m (omega arith)) (within_each m (above m) i (j - suc i) q.first_below q.place_below)

-- a number has one pair
pub same_pair : (m r i j i' j' : ℕ) → PairAt m r i j → PairAt m r i' j' → (i ≡ i') × (j ≡ j')
same_pair m r i j i' j' p p' =
    let q = is_above m i j p.rising p.below in
    let q' = is_above m i' j' p'.rising p'.below in
    let e : i ≡ i' =
    same_part (above m) i i' (j - suc i) (j' - suc i') q.place_below q'.place_below (sym (is_there m r i j p) ∙ is_there m r i' j' p') in
    let start : pairs_before m i ≡ pairs_before m i' = ap (pairs_before m) e in
    (e, omega (arith, p.rising, p.is, p'.rising, p'.is))

module _ {X : Type 0} where
  -- what was made for a pair stands at the pair's number
  pub get_or-pairs : (m : ℕ) (f : ℕ → ℕ → X) (z : X) (r i j : ℕ) → PairAt m r i j → get_or (for_pairs m (λ i j. f i j ∷ [])) r z ≡ f i j
  unfolding for_pairs
  get_or-pairs m f z r i j p =
      let q = is_above m i j p.rising p.below in
      ap (λ r. get_or (for_pairs m (λ i j. f i j ∷ [])) r z) (is_there m r i j p)
      ∙ get_or-each m (λ i. table (above m i) (λ j. f i (suc i + j))) (above m) (λ i. length-table _ _) z i (j - suc i) q.first_below q.place_below
      ∙ get_or-table (above m i) (λ j. f i (suc i + j)) z (j - suc i) q.place_below
      ∙ ap (f i) q.at_place
