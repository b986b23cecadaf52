-- The lines of pairs in order: those with one first number are a row, and the pair behind a row begins the next.
-- Assumes nothing.
use mathlib.Core.Path.{◌≡◌, refl, ap, ◌∙◌}
use mathlib.Core.Logic.{⊎_elim}
use mathlib.Core.List.{List, [], ◌∷◌, ◌++◌}
use Prim.Native.Nat.{ℕ, suc, ◌+◌, ◌-◌, ◌*◌, ◌≤◌, ◌<◌}
use native.Mathlib.Omega.{arith}
use native.Mathlib.Nat.{sub_self}
use native.Mathlib.Numerals.{add-one}
use lib.ListN.{length}
use Rattle.rules.specs.Counting.{for_each}
use Rattle.rules.specs.Counts.{pairs_below, pairs_before, number_of_pair}
use Rattle.rules.specs.Families.{minus}
use Rattle.rules.specs.Text.{clause_line}
use Rattle.rules.proofs.Bools.{below_or}
use Rattle.rules.proofs.Counting.{for_each-ext}
use Rattle.rules.proofs.Counts.{pairs_all}
use Rattle.rules.proofs.Pairs.{PairAt, pairs_next, get_or-pairs}
use Rattle.digits.specs.Over.{Wrote}
use Rattle.digits.proofs.Overs.{wrote_nothing, wrote_more}
use Rattle.exclusions.specs.Exclusions.{exclusion_text, row_text, exclusion_line, exclusion_lines, pair_room}
use Rattle.exclusions.proofs.Adding.{for_each-add}

-- ---- a row

-- the line of a pair
pub pair_line : (base count r i j : ℕ) → PairAt count r i j → exclusion_line base count r ≡ exclusion_text (base + i) (base + j)
unfolding exclusion_line exclusion_text
pair_line base count r i j p = ap clause_line (get_or-pairs count (λ i j. minus (base + i) ∷ minus (base + j) ∷ []) [] r i j p)

-- the pairs behind (i, j) with the same first number
pair_behind : (count from d i j r : ℕ) → i < j → j + r < count → from + d ≡ number_of_pair count i j → PairAt count (from + (d + r)) i (j + r)
pair_behind count from d i j r h l e = record { rising = omega arith; below = l; is = omega arith }

row_part : (base count from d i j k : ℕ) → i < j → j + k ≤ count → from + d ≡ number_of_pair count i j
    → exclusion_lines base count from (d + k) ≡ exclusion_lines base count from d ++ row_text (base + i) (base + j) k
unfolding exclusion_lines row_text
row_part base count from d i j k h l e =
    for_each-add d k (λ r. exclusion_line base count (from + r))
    ∙ ap (λ x. for_each d (λ r. exclusion_line base count (from + r)) ++ x)
    (for_each-ext k (λ r. exclusion_line base count (from + (d + r))) (λ r. exclusion_text (base + i) (base + j + r)) (λ r b.
    pair_line base count (from + (d + r)) i (j + r) (pair_behind count from d i j r h (omega arith) e)
    ∙ ap (exclusion_text (base + i)) (omega arith)))

-- ---- the next row

module _ (count i j : ℕ) (h : i < j) (l : j < count) where
  pub next_number : number_of_pair count i j + (count - j) ≡ number_of_pair count (i + 1) (i + 1 + 1)
  next_number = rw (add-one (i + 1), add-one i) (omega (arith, pairs_next count i (omega arith)))

  -- the pair behind the row is one of the pairs below count, if there is any left
  pub next_below : number_of_pair count i j + (count - j) < pairs_below count → i + 1 + 1 < count
  next_below b = ⊎_elim (λ s. s) (λ s. absurd (omega (arith, pairs_next count i (omega arith), all s))) (below_or (i + 1 + 1) count)
    where
      all : count ≤ i + 1 + 1 → pairs_before count (suc i) ≡ pairs_below count
      all s =
          let e : suc (suc i) ≡ count = omega arith in
          let next : pairs_before count (suc (suc i)) ≡ pairs_before count (suc i) + (count - suc (suc i)) = pairs_next count (suc i) (omega arith) in
          let none : pairs_before count (suc i) ≡ pairs_before count (suc (suc i)) = omega arith in
          none ∙ ap (pairs_before count) e ∙ pairs_all count

-- ---- rows

-- all but the last `left` lines are written, and (i, j) is the next pair
pub record PairsPut (room : List ℕ) (at base count from lines : ℕ) (now : List ℕ) (end i j left : ℕ) : Type 0 where
  pub rising : i < j
  pub below : j < count
  pub number : from + (lines - left) ≡ number_of_pair count i j
  pub few : left ≤ lines
  pub wrote : Wrote room at (exclusion_lines base count from (lines - left)) now end
  pub within : end ≤ at + pair_room * (lines - left)
  pub kept : length now ≡ length room

pub pairs_start : (room : List ℕ) (at base count first second lines : ℕ) → first < second → second < count
    → PairsPut room at base count (number_of_pair count first second) lines room at first second lines
unfolding exclusion_lines for_each
pairs_start room at base count first second lines h l =
    record {
      rising = h;
      below = l;
      number = omega (arith, sub_self lines);
      few = omega arith;
      wrote = rw (sub_self lines) (wrote_nothing room at);
      within = omega arith;
      kept = refl;
    }

module _ (room : List ℕ) (at base count from lines : ℕ) (now : List ℕ) (end i j left : ℕ) (p : PairsPut room at base count from lines now end i j left) where
  -- k lines more
  part_written : (now' : List ℕ) (end' k : ℕ) → k ≤ left → j + k ≤ count → Wrote now end (row_text (base + i) (base + j) k) now' end'
      → Wrote room at (exclusion_lines base count from (lines - (left - k))) now' end'
  part_written now' end' k l h w =
      let e : lines - (left - k) ≡ lines - left + k = omega arith in
      rw (e, row_part base count from (lines - left) i j k p.rising h p.number)
      (wrote_more room now now' at end end' (exclusion_lines base count from (lines - left)) (row_text (base + i) (base + j) k) p.wrote w)

  pub pairs_more : (now' : List ℕ) (end' : ℕ) → count - j < left → from + lines ≤ pairs_below count
      → Wrote now end (row_text (base + i) (base + j) (count - j)) now' end' → end' ≤ end + pair_room * (count - j) → length now' ≡ length now
      → PairsPut room at base count from lines now' end' (i + 1) (i + 1 + 1) (left - (count - j))
  pairs_more now' end' l b w g s =
      record {
        rising = omega arith;
        below = next_below count i j p.rising p.below (before (number_of_pair count i j) (pairs_below count) p.number b);
        number = passed (number_of_pair count i j) p.number ∙ next_number count i j p.rising p.below;
        few = omega (arith, p.few);
        wrote = part_written now' end' (count - j) (omega arith) (omega (arith, p.below)) w;
        within = omega (arith, p.within, p.few);
        kept = s ∙ p.kept;
      }
    where
      before : (r all : ℕ) → from + (lines - left) ≡ r → from + lines ≤ all → r + (count - j) < all
      before r all e b = omega (arith, p.few)

      passed : (r : ℕ) → from + (lines - left) ≡ r → from + (lines - (left - (count - j))) ≡ r + (count - j)
      passed r e = omega (arith, p.few)

  pub pairs_end : (now' : List ℕ) (end' : ℕ) → left ≤ count - j → Wrote now end (row_text (base + i) (base + j) left) now' end'
      → Wrote room at (exclusion_lines base count from lines) now' end'
  pairs_end now' end' l w =
      let e : lines ≡ lines - (left - left) = omega arith in
      rw e (part_written now' end' left (omega arith) (omega (arith, p.below)) w)
