-- Laws of words: a text is cut at its first separator, and the value of digits.
-- Assumes nothing.
use mathlib.Core.Path.{◌≡◌, refl, sym, ap, ◌∙◌}
use mathlib.Core.Logic.{⊎_elim, ◌≢◌}
use mathlib.Core.List.{List, [], ◌∷◌}
use Prim.Native.Nat.{ℕ, suc, ◌+◌, ◌-◌, ◌*◌, ◌^◌, ◌≤◌, ◌<◌}
use native.Mathlib.Omega.{arith}
use native.Mathlib.Numerals.{add-one}
use native.Mathlib.Nat.{le_of_suc-le-suc, pow-suc, pow-le-pow_right}
use borrow.Author.Tests.{eq-eqb, ne_eqb, eqb-true}
use lib.Dec.{eqb, lit≤}
use mir.Syntax.{w64}
use mir.Val.{Fits}
use lib.ListN.{length, take, drop, length-drop, drop_of_length-le, get_or-eq_default}
use lib.Seq.{drop-cons, take_all, length-take-le, get_or-drop}
use Rattle.std.specs.Prelude.{Option}
use Rattle.std.specs.Option.{MatchOption, unwrap_or}
use Rattle.std.specs.List.{AllWithin, HoldsAt}
use Rattle.std.proofs.lemmas.Iterator.{index_from_first}
use Rattle.rules.specs.File.{byte}
use Rattle.rules.specs.Text.{digit0}
use Rattle.rules.specs.Lines.{onto, pieces, value_from}
use Rattle.rules.proofs.Bools.{either}
use Rattle.lent_bytes.specs.Words.{length_until, pieces_behind, PieceEnds, most_digits}

pub byte_past : (s : List ℕ) (i : ℕ) → length s ≤ i → 0 ≡ byte s i
byte_past s i h = sym (get_or-eq_default s 0 h)

-- a text from a place on, as a lent part of it has it
pub from : (s : List ℕ) (i : ℕ) → take (length s - i) (drop i s) ≡ drop i s
from s i = take_all (length s - i) (drop i s) (omega (arith, length-drop i s))

-- ---- where a piece ends

until_le : (separator : ℕ) (s : List ℕ) → length_until separator s ≤ length s
unfolding length_until
until_le separator [] = omega arith
until_le separator (b ∷ s) =
    ⊎_elim (λ t. rw t (omega arith)) (λ t. rw t (omega (arith, until_le separator s))) (either (eqb b separator))

-- the first piece stands before the first separator
pub pieces_cut : (separator : ℕ) (s : List ℕ)
    → pieces separator s ≡ take (length_until separator s) s ∷ pieces_behind separator (drop (length_until separator s) s)
unfolding pieces length_until pieces_behind
pieces_cut separator [] = refl
pieces_cut separator (b ∷ s) =
    ⊎_elim (λ t. rw t refl) (λ t. rw t (ap (onto b) (pieces_cut separator s))) (either (eqb b separator))

-- the first separator ends a piece, and so does the end of the text
until_none : (separator : ℕ) → length_until separator [] ≡ 0
unfolding length_until
until_none separator = refl

until_here : (separator b : ℕ) (s : List ℕ) → b ≡ separator → length_until separator (b ∷ s) ≡ 0
unfolding length_until
until_here separator b s e = rw (eq-eqb _ _ e)

until_on : (separator b : ℕ) (s : List ℕ) → b ≢ separator → length_until separator (b ∷ s) ≡ length_until separator s + 1
unfolding length_until
until_on separator b s e = rw (ne_eqb _ _ e) (omega arith)

pub ends_at_first : (separator : ℕ) (s : List ℕ) (at n : ℕ) (r : Option ℕ) → at ≤ length s → n ≡ unwrap_or r (length s - at)
    → MatchOption r (AllWithin (λ b. b ≢ separator) (drop at s) 0 (length (drop at s)))
    (λ i. (i < length (drop at s)) × HoldsAt (λ b. b ≡ separator) (drop at s) i × AllWithin (λ b. b ≢ separator) (drop at s) 0 i)
    → PieceEnds separator s at (at + n)
ends_at_first separator s at n r h e m =
    let i : length_until separator (drop at s) ≡ unwrap_or r (length (drop at s)) =
    index_from_first (length_until separator) (λ b. b ≡ separator) (λ b. b ≢ separator) (until_none separator) (until_here separator) (until_on separator) (drop at s) r m in
    let j : length_until separator (drop at s) ≡ n = rw (length-drop at s) at i ∙ sym e in
    record { behind = omega arith; within = omega (arith, until_le separator (drop at s), length-drop at s); is = omega arith }

-- a piece has no separator in it, and unless the text ends with it, one stands behind it
until_alone : (separator : ℕ) (s : List ℕ) → length_until separator (take (length_until separator s) s) ≡ length_until separator s
unfolding length_until
until_alone separator [] = refl
until_alone separator (b ∷ s) =
    ⊎_elim (λ t. rw t refl) (λ t. rw t (rw t (ap suc (until_alone separator s)))) (either (eqb b separator))

until_stops : (separator : ℕ) (s : List ℕ) → length_until separator s < length s → byte s (length_until separator s) ≡ separator
unfolding length_until
until_stops separator [] h = absurd (omega arith)
until_stops separator (b ∷ s) h =
    ⊎_elim (λ t. rw t (eqb-true b separator t)) (λ t. rw t (until_stops separator s (le_of_suc-le-suc (rw t at h)))) (either (eqb b separator))

module _ (separator : ℕ) (s : List ℕ) (at end : ℕ) (ends : PieceEnds separator s at end) where
  pub piece_alone : length_until separator (take (end - at) (drop at s)) ≡ length (take (end - at) (drop at s))
  piece_alone =
      let n : end - at ≡ length_until separator (drop at s) = omega (arith, ends.is) in
      ap (λ k. length_until separator (take k (drop at s))) n
      ∙ until_alone separator (drop at s)
      ∙ sym n
      ∙ sym (length-take-le (end - at) (drop at s) (omega (arith, ends.within, length-drop at s)))

  pub piece_stops : end < length s → byte s end ≡ separator
  piece_stops h =
      ap (byte s) ends.is
      ∙ sym (get_or-drop at s (length_until separator (drop at s)) 0)
      ∙ until_stops separator (drop at s) (omega (arith, ends.is, length-drop at s))

-- ---- the value of digits

-- one byte more is worth a factor 256 at most
room : (i n m : ℕ) → i < n → n ≤ most_digits → m < 256 ^ i → 10 * m + 256 < 2 ^ 64
room i n m h l b = let most : 256 ^ i ≤ 256 ^ 6 = pow-le-pow_right (lit≤ tt) {i = i} {j = 6} (omega arith) in omega arith

pub room_tenfold : (i n m : ℕ) → i < n → n ≤ most_digits → m < 256 ^ i → Fits w64 (10 * m)
room_tenfold i n m h l b = record { fits = omega (arith, room i n m h l b) }

pub room_next : (i n m w : ℕ) → i < n → n ≤ most_digits → m < 256 ^ i → w < 256 → Fits w64 (10 * m + w)
room_next i n m w h l b k = record { fits = omega (arith, room i n m h l b) }

pub value_grows : (i m w : ℕ) → m < 256 ^ i → w < 256 → 10 * m + w < 256 ^ (i + 1)
value_grows i m w h l = rw (add-one i, pow-suc 256 i) (omega arith)

pub value_on : (s : List ℕ) (i m w n : ℕ) → i < length s → w ≡ byte s i - digit0 → value_from m (drop i s) ≡ n
    → value_from (10 * m + w) (drop (i + 1) s) ≡ n
unfolding value_from
value_on s i m w n h e k = rw (add-one i, e) (rw (drop-cons s i 0 h) at k)

pub value_done : (s : List ℕ) (i m n : ℕ) → length s ≤ i → value_from m (drop i s) ≡ n → m ≡ n
unfolding value_from
value_done s i m n h k = rw (drop_of_length-le s h) at k
