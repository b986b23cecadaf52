-- A row of lines.
-- Assumes nothing.
use mathlib.Core.Path.{◌≡◌, refl, ap, ◌∙◌}
use mathlib.Core.List.{List}
use Prim.Native.Nat.{ℕ, suc, ◌+◌, ◌-◌, ◌*◌, ◌%◌, ◌^◌, ◌≤◌, ◌<◌, min}
use native.Mathlib.Omega.{arith}
use native.Mathlib.Numerals.{add-one}
use lib.ListN.{length}
use mir.Syntax.{w64}
use mir.Val.{Fits}
use Rattle.rules.specs.Limits.{max_n}
use Rattle.rules.specs.Counting.{for_each}
use Rattle.rules.specs.Text.{decimal}
use Rattle.rules.proofs.Counting.{for_each-ext}
use Rattle.rules.proofs.Decimal.{decimal_some}
use Rattle.digits.specs.Over.{Wrote}
use Rattle.digits.proofs.Overs.{wrote_nothing, wrote_more}
use Rattle.exclusions.specs.Exclusions.{exclusion_text, row_text, pair_room}
use Rattle.exclusions.specs.InTwoWords.{word_bytes, one_more, run_text, head_word, tail_word}
use Rattle.exclusions.proofs.Adding.{for_each-add}
use Rattle.exclusions.proofs.ByBytes.{digits_few}
use Rattle.exclusions.proofs.Stems.{digits_least, tail_below, run_row}

-- i lines of the row are written
pub record RowPut (room : List ℕ) (at p q n : ℕ) (now : List ℕ) (end i : ℕ) : Type 0 where
  pub wrote : Wrote room at (row_text p q i) now end
  pub within : end ≤ at + pair_room * i
  pub few : i ≤ n
  pub kept : length now ≡ length room

pub row_start : (room : List ℕ) (at p q n : ℕ) → RowPut room at p q n room at 0
unfolding row_text for_each
row_start room at p q n = record { wrote = wrote_nothing room at; within = omega arith; few = omega arith; kept = refl }

pub row_line : (room : List ℕ) (at p q n : ℕ) (now now' : List ℕ) (end end' i : ℕ) → RowPut room at p q n now end i → i < n
    → Wrote now end (exclusion_text p (q + i)) now' end' → end' ≤ end + pair_room → length now' ≡ length now
    → RowPut room at p q n now' end' (i + 1)
unfolding row_text for_each
row_line room at p q n now now' end end' i r l w h k =
    record {
      wrote = rw (add-one i) (wrote_more room now now' at end end' _ _ r.wrote w);
      within = omega (arith, r.within);
      few = omega arith;
      kept = k ∙ r.kept;
    }

pub line_room_lem : (room : List ℕ) (at p q n : ℕ) (now : List ℕ) (end i : ℕ) → RowPut room at p q n now end i → i < n
    → at + pair_room * n ≤ length room → end + pair_room ≤ length now
line_room_lem room at p q n now end i r l h = omega arith

pub row_end : (room : List ℕ) (at p q n : ℕ) (now : List ℕ) (end i : ℕ) → RowPut room at p q n now end i → n ≤ i → Wrote room at (row_text p q n) now end
row_end room at p q n now end i r h =
    let e : i ≡ n = omega arith in
    rw (← e) r.wrote

pub row_within : (room : List ℕ) (at p q n : ℕ) (now : List ℕ) (end i : ℕ) → RowPut room at p q n now end i → n ≤ i → end ≤ at + pair_room * n
row_within room at p q n now end i r h = omega (arith, r.within)

-- ---- ten lines a turn

-- the same, and the words of the line's beginning are at hand
pub record TensPut (room : List ℕ) (at p q n head beside : ℕ) (now : List ℕ) (end i : ℕ) : Type 0 where
  pub row : RowPut room at p q n now end i
  pub begins : head ≡ head_word p
  pub signs : beside ≡ length (decimal p) + 6

pub signs_fit : (p d : ℕ) → p ≤ max_n → d ≡ length (decimal p) → Fits w64 (d + 6)
signs_fit p d h e = record { fits = omega (arith, digits_few p h) }

pub tens_start : (room : List ℕ) (at p q n head d : ℕ) → head ≡ head_word p → d ≡ length (decimal p) → TensPut room at p q n head (d + 6) room at 0
tens_start room at p q n head d e f = record { row = row_start room at p q n; begins = e; signs = omega arith }

module _ (room : List ℕ) (at p q n head beside : ℕ) (now : List ℕ) (end i k : ℕ) (t : TensPut room at p q n head beside now end i)
    (l : i < n) (e : k ≡ min (10 - (q + i) % 10) (n - i)) where
  pub tens_least : 7 ≤ beside
  tens_least = omega (arith, t.signs, decimal_some p)

  pub tens_most : p ≤ max_n → beside ≤ 11
  tens_most b = omega (arith, t.signs, digits_few p b)

  pub tens_room : at + pair_room * n ≤ length room → end + pair_room * k ≤ length now
  tens_room h = omega (arith, t.row.within, t.row.kept)

  pub tens_more : (now' : List ℕ) (end' : ℕ) → p ≤ max_n → 100 ≤ q → q + n ≤ suc max_n
      → Wrote now end (run_text head (beside + length (decimal (q + i))) (tail_word (q + i)) k) now' end' → end' ≤ end + pair_room * k → length now' ≡ length now
      → TensPut room at p q n head beside now' end' (i + k)
  unfolding row_text
  tens_more now' end' b h f w g s =
      let same : run_text head (beside + length (decimal (q + i))) (tail_word (q + i)) k ≡ row_text p (q + i) k =
      ap (λ w. run_text w (beside + length (decimal (q + i))) (tail_word (q + i)) k) t.begins
      ∙ run_row p (q + i) k (beside + length (decimal (q + i))) b (omega arith) (omega arith) (omega arith) (omega arith) (omega (arith, t.signs)) in
      record {
        row = record {
          wrote = rw (for_each-add i k (λ j. exclusion_text p (q + j))) (wrote_more room now now' at end end' _ _ t.row.wrote (shifted now' end' (rw same at w)));
          within = omega (arith, t.row.within);
          few = omega arith;
          kept = s ∙ t.row.kept;
        };
        begins = t.begins;
        signs = t.signs;
      }
    where
      shifted : (now' : List ℕ) (end' : ℕ) → Wrote now end (for_each k (λ j. exclusion_text p (q + i + j))) now' end' → Wrote now end (for_each k (λ j. exclusion_text p (q + (i + j)))) now' end'
      shifted now' end' w = rw (for_each-ext k (λ j. exclusion_text p (q + (i + j))) (λ j. exclusion_text p (q + i + j)) (λ j b. ap (exclusion_text p) (omega arith))) w

-- ---- to the next number that ends in 0

module _ (m : ℕ) (h : 100 ≤ m) (l : m ≤ max_n) (beside d : ℕ) (e : d ≡ length (decimal m)) where
  pub ten_fits : beside ≤ 11 → Fits w64 (beside + d)
  ten_fits b = record { fits = omega (arith, digits_few m l) }

  pub ten_least : 7 ≤ beside → word_bytes ≤ beside + d
  ten_least b = omega (arith, digits_least m h)

  pub ten_most : beside ≤ 11 → beside + d ≤ pair_room
  ten_most b = omega (arith, digits_few m l)

pub ten_tail : (m n tail : ℕ) → 100 ≤ m → m ≤ max_n → m % 10 + n ≤ 10 → tail ≡ tail_word m → tail + one_more * n < 2 ^ 64
ten_tail m n tail h l t e = omega (arith, tail_below m h l)

pub run_written : (room now : List ℕ) (at head beside d tail m n end : ℕ) → Wrote room at (run_text head (beside + d) tail n) now end → d ≡ length (decimal m) → tail ≡ tail_word m
    → Wrote room at (run_text head (beside + length (decimal m)) (tail_word m) n) now end
run_written room now at head beside d tail m n end w e f = rw (← e, ← f) w

-- ten lines are the most, and sixteen bytes
pub wide_tail : (m tail : ℕ) → 100 ≤ m → m ≤ max_n → tail ≡ tail_word m → tail + one_more * 10 < 2 ^ 64
wide_tail m tail h l e = omega (arith, tail_below m h l)

pub wide_room : (at n room : ℕ) → 10 ≤ n → at + pair_room * n ≤ room → at + pair_room * 10 ≤ room
wide_room at n room l h = omega arith

pub wide_written : (room now : List ℕ) (at head beside d tail m n end : ℕ) → Wrote room at (run_text head pair_room tail 10) now end → m ≤ max_n
    → m % 10 + n ≤ 10 → 10 ≤ n → beside ≤ 11 → d ≡ length (decimal m) → pair_room ≤ beside + d → tail ≡ tail_word m
    → Wrote room at (run_text head (beside + length (decimal m)) (tail_word m) n) now end
wide_written room now at head beside d tail m n end w b f g h e k t =
    let ten : n ≡ 10 = omega arith in
    let wide : beside + d ≡ pair_room = omega (arith, digits_few m b) in
    run_written room now at head beside d tail m n end (rw (ten, wide) w) e t
