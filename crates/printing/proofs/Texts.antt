-- The texts that are written part behind part: a long number, the lines of entries, the line of a refusal.
-- Assumes nothing.
use mathlib.Core.Path.{◌≡◌, refl, sym, ap, ◌∙◌}
use mathlib.Core.List.{List, [], ◌∷◌, ◌++◌, append_assoc}
use Prim.Native.Nat.{ℕ, ◌+◌, ◌*◌, ◌/◌, ◌%◌, ◌^◌, ◌≤◌, ◌<◌}
use native.Mathlib.Omega.{arith}
use native.Mathlib.Nat.{zero-add}
use native.Mathlib.Numerals.{add-one}
use lib.ListN.{length, get_or, length-append}
use Rattle.rules.specs.Counting.{for_each}
use Rattle.rules.specs.Answers.{answer_of}
use Rattle.rules.specs.Text.{ascii, lf, space, digit0, decimal, refusal_line}
use Rattle.rules.specs.Programs.{schedule_text}
use Rattle.rules.specs.declared.Refusal.{Refusal}
use Rattle.rules.proofs.Counting.{for_each-joined}
use Rattle.rules.proofs.Decimal.{decimal_more, decimal_few}
use Rattle.digits.specs.Bound.{past_numbers}
use Rattle.digits.specs.Over.{over}
use Rattle.digits.proofs.Overs.{over_over}
use Rattle.digits.proofs.PartBehindPart.{Written, written_none, written_more}
use Rattle.printing.specs.Printed.{ended, refused_word, number_room, ended_room}

-- ---- a number of more than eighteen digits

number_long : (m : ℕ) → past_numbers ≤ m → decimal m ≡ decimal (m / 100) ++ ((digit0 + m / 10 % 10) ∷ (digit0 + m % 10) ∷ [])
number_long m h =
    let tens : m / 10 / 10 ≡ m / 100 = omega arith in
    decimal_more m (omega arith)
    ∙ ap (λ x. x ++ ((digit0 + m % 10) ∷ [])) (decimal_more (m / 10) (omega arith) ∙ ap (λ q. decimal q ++ ((digit0 + m / 10 % 10) ∷ [])) tens)
    ∙ append_assoc (decimal (m / 100)) ((digit0 + m / 10 % 10) ∷ []) ((digit0 + m % 10) ∷ [])

long_length : (m : ℕ) → past_numbers ≤ m → length (decimal m) ≡ length (decimal (m / 100)) + 2
long_length m h = ap length (number_long m h) ∙ length-append (decimal (m / 100)) ((digit0 + m / 10 % 10) ∷ (digit0 + m % 10) ∷ [])

number_few : (m : ℕ) → m < 2 ^ 64 → length (decimal m) ≤ number_room
number_few m h = decimal_few 19 m (omega arith)

module _ (m at : ℕ) (room : List ℕ) (small : m < 2 ^ 64) (fits : at + number_room ≤ length room) where
  pub short_fits : at + length (decimal m) ≤ length room
  short_fits = omega (arith, number_few m small)

  pub high_fits : past_numbers ≤ m → at + length (decimal (m / 100)) ≤ length room
  high_fits long = omega (arith, number_few m small, long_length m long)

  module _ (long : past_numbers ≤ m) (high : List ℕ) (hundreds : ℕ) (kept : length high ≡ length room) (e : hundreds ≡ at + length (decimal (m / 100))) where
    pub tens_fit : hundreds < length high
    tens_fit = omega (arith, number_few m small, long_length m long)

    pub ones_fit : (most : List ℕ) (tens : ℕ) → length most ≡ length high → tens ≡ hundreds + 1 → tens < length most
    ones_fit most tens l f = omega (arith, number_few m small, long_length m long)

pub number_ends : (m at end : ℕ) → m < 2 ^ 64 → end ≡ at + length (decimal m) → end ≤ at + number_room
number_ends m at end small e = omega (arith, number_few m small)

module _ (m at : ℕ) (long : past_numbers ≤ m) where
  module _ (room high most all : List ℕ) (hundreds tens : ℕ) (f : hundreds ≡ at + length (decimal (m / 100))) (h : tens ≡ hundreds + 1) where
    pub long_put : (ten one : ℕ) → high ≡ over room at (decimal (m / 100)) → most ≡ over high hundreds (ten ∷ []) → all ≡ over most tens (one ∷ [])
        → ten ≡ digit0 + m / 10 % 10 → one ≡ digit0 + m % 10 → all ≡ over room at (decimal m)
    long_put ten one e g i k l =
        let two : all ≡ over high hundreds (ten ∷ one ∷ []) = i ∙ rw (h, g) (over_over high hundreds (ten ∷ []) (one ∷ [])) in
        let whole : all ≡ over room at (decimal (m / 100) ++ (ten ∷ one ∷ [])) = two ∙ rw (e, f) (over_over room at (decimal (m / 100)) (ten ∷ one ∷ [])) in
        whole ∙ ap (over room at) (rw (k, l) (sym (number_long m long)))

  pub long_behind : (hundreds tens end : ℕ) → hundreds ≡ at + length (decimal (m / 100)) → tens ≡ hundreds + 1 → end ≡ tens + 1 → end ≡ at + length (decimal m)
  long_behind hundreds tens end f h j = omega (arith, long_length m long)

pub long_ends : (m at hundreds tens end : ℕ) → hundreds ≡ at + length (decimal (m / 100)) → tens ≡ hundreds + 1 → end ≡ tens + 1 → past_numbers ≤ m → m < 2 ^ 64
    → end ≤ at + number_room
long_ends m at hundreds tens end f h j long small = omega (arith, number_few m small, long_length m long)

-- ---- a number and the byte that ends it

pub ended_put : (m at b place : ℕ) (room next all : List ℕ) → next ≡ over room at (decimal m) → place ≡ at + length (decimal m) → all ≡ over next place (b ∷ [])
    → all ≡ over room at (ended m b)
unfolding ended
ended_put m at b place room next all e f g = g ∙ rw (e, f) (over_over room at (decimal m) (b ∷ []))

pub ended_behind : (m at b place end : ℕ) → place ≡ at + length (decimal m) → end ≡ place + 1 → end ≡ at + length (ended m b)
unfolding ended
ended_behind m at b place end f g = omega (arith, length-append (decimal m) (b ∷ []))

-- ---- the lines of entries

unfoldable pub lines_to : List ℕ → ℕ → List ℕ
lines_to entries i = for_each i (λ j. decimal (get_or entries j 0) ++ (lf ∷ []))

-- the lines of the first i entries are written, in no more room than they may need
pub record Lines (room entries now : List ℕ) (at i : ℕ) : Type 0 where
  pub lines : Written room 0 (lines_to entries i) now at
  pub few : at ≤ ended_room * i
  pub within : i ≤ length entries

pub lines_none : (room entries : List ℕ) → Lines room entries room 0 0
unfolding lines_to for_each
lines_none room entries = record { lines = written_none room 0; few = omega arith; within = omega arith }

module _ (room entries now : List ℕ) (at i : ℕ) (s : Lines room entries now at i) where
  pub lines_kept : length now ≡ length room
  lines_kept = s.lines.kept

  module _ (h : i < length entries) (fits : ended_room * length entries ≤ length room) where
    pub line_fits : at + ended_room ≤ length now
    line_fits = omega (arith, s.few, s.lines.kept)

    pub lines_more : (more : List ℕ) (last entry : ℕ) → more ≡ over now at (ended entry lf) → last ≡ at + length (ended entry lf) → last ≤ at + ended_room
        → entry ≡ get_or entries i 0 → Lines room entries more last (i + 1)
    unfolding lines_to for_each ended
    lines_more more last entry e f l is =
        record {
          lines = rw (add-one i, sym is) (written_more room 0 (lines_to entries i) now at s.lines (ended entry lf) more last (omega (arith, line_fits, f, l)) e f);
          few = omega (arith, s.few);
          within = omega arith;
        }

  module _ (l : length entries ≤ i) where
    all_lines : lines_to entries i ≡ schedule_text entries
    unfolding lines_to schedule_text
    all_lines =
        let all : i ≡ length entries = omega (arith, s.within) in
        rw all (for_each-joined (λ e. decimal e ++ (lf ∷ [])) entries 0)

    pub lines_are : now ≡ over room 0 (schedule_text entries)
    lines_are = s.lines.is ∙ ap (over room 0) all_lines

    pub lines_behind : at ≡ length (schedule_text entries)
    lines_behind = omega (arith, s.lines.behind, ap length all_lines)

-- ---- the line of a refusal

pub word_length : length refused_word ≡ 8
unfolding refused_word ascii
word_length = refl

pub word_put : (room now : List ℕ) → now ≡ over room 0 (114 ∷ 101 ∷ 102 ∷ 117 ∷ 115 ∷ 101 ∷ 100 ∷ 32 ∷ []) → now ≡ over room 0 refused_word
unfolding refused_word ascii
word_put room now e = e

line_is : (why : Refusal) → refusal_line why ≡ refused_word ++ (ended (answer_of why).number space ++ ended (answer_of why).detail lf)
unfolding refusal_line refused_word ascii ended
line_is why = simp append_assoc

pub refusal_put : (why : Refusal) (room text one all : List ℕ) (at detail n m : ℕ) → all ≡ over one detail (ended m lf) → one ≡ over text at (ended n space)
    → text ≡ over room 0 refused_word → m ≡ (answer_of why).detail → n ≡ (answer_of why).number → detail ≡ at + length (ended n space) → at ≡ length refused_word
    → all ≡ over room 0 (refusal_line why)
refusal_put why room text one all at detail n m g f e i h d a =
    let two : all ≡ over text at (ended n space ++ ended m lf) = g ∙ rw (f, d) (over_over text at (ended n space) (ended m lf)) in
    let whole : all ≡ over room 0 (refused_word ++ (ended n space ++ ended m lf)) =
    two ∙ rw (e, a) (rw zero-add at (over_over room 0 refused_word (ended n space ++ ended m lf))) in
    whole ∙ rw (line_is why, h, i)

pub refusal_behind : (why : Refusal) (at detail end n m : ℕ) → end ≡ detail + length (ended m lf) → detail ≡ at + length (ended n space)
    → m ≡ (answer_of why).detail → n ≡ (answer_of why).number → at ≡ length refused_word → end ≡ length (refusal_line why)
refusal_behind why at detail end n m f d i h a =
    omega (
      arith,
      ap length (line_is why),
      ap (λ k. length (ended k space)) h,
      ap (λ k. length (ended k lf)) i,
      length-append refused_word (ended (answer_of why).number space ++ ended (answer_of why).detail lf),
      length-append (ended (answer_of why).number space) (ended (answer_of why).detail lf),
    )
