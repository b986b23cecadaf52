-- Laws of a fact's line: it is a number on each side of its first space, for a number is one word.
-- Assumes nothing.
use mathlib.Core.Path.{◌≡◌, refl, sym, ap, ◌∙◌}
use mathlib.Core.Bool.{Bool, true, false, not, ◌&&◌, ◌||◌}
use mathlib.Core.List.{List, [], ◌∷◌}
use Prim.Native.Nat.{ℕ, suc, ◌+◌, ◌-◌}
use native.Mathlib.Omega.{arith}
use borrow.Author.Tests.{ne_eqb, eqb-true}
use lib.Dec.{eqb, leb}
use lib.ListN.{length, take, drop, length-drop, drop_of_length-le}
use lib.Seq.{take_all}
use Rattle.rules.specs.Counting.{every}
use Rattle.rules.specs.File.{byte}
use Rattle.rules.specs.Limits.{max_text_digits}
use Rattle.rules.specs.Text.{space, digit0}
use Rattle.rules.specs.Lines.{pieces, is_digit}
use Rattle.rules.specs.Format.{word_at, word_count, is_plain}
use Rattle.rules.proofs.Bools.{not_true, not_false, and_left, and_right, same_truth, clash}
use Rattle.lent_bytes.specs.Words.{length_until, pieces_behind, EndsAt}
use Rattle.lent_bytes.proofs.WordLaws.{pieces_cut, from}
use Rattle.textlines.specs.Says.{is_fact}
use Rattle.textlines.proofs.WordPlaces.{word_first, word_on, word_here, count_some, count_last, count_on}

-- ---- a number is one word

digits_until : (s : List ℕ) → every is_digit s ≡ true → length_until space s ≡ length s
unfolding every length_until
digits_until [] t = refl
digits_until (b ∷ s) t =
    let other : eqb b space ≡ false = ne_eqb b space (λ e. clash (and_left (is_digit b) (every is_digit s) t) (ap is_digit e)) in
    rw other (ap suc (digits_until s (and_right (is_digit b) (every is_digit s) t)))

plain_digits : (s : List ℕ) → is_plain s ≡ true → every is_digit s ≡ true
unfolding is_plain
plain_digits s t =
    and_right (leb 1 (length s) && leb (length s) max_text_digits) (every is_digit s) (and_left _ (not (eqb (byte s 0) digit0) || eqb (length s) 1) t)

plain_whole : (s : List ℕ) → is_plain s ≡ true → pieces space s ≡ s ∷ []
unfolding pieces_behind
plain_whole s t =
    let until : length_until space s ≡ length s = digits_until s (plain_digits s t) in
    let all : take (length_until space s) s ≡ s = take_all (length_until space s) s (omega (arith, until)) in
    let none : drop (length_until space s) s ≡ [] = drop_of_length-le s {i = length_until space s} (omega (arith, until)) in
    pieces_cut space s ∙ rw (all, none)

behind_none : (s : List ℕ) → length (pieces_behind space s) ≡ 0 → s ≡ []
unfolding pieces_behind word_count
behind_none [] e = refl
behind_none (b ∷ s) e = absurd (omega (arith, e, count_some s))

one_whole : (s : List ℕ) → word_count s ≡ 1 → word_at s 0 ≡ s
unfolding word_count
one_whole s e =
    let n : ℕ = length_until space s in
    let none : drop n s ≡ [] = behind_none (drop n s) (omega (arith, e, ap length (pieces_cut space s))) in
    word_first s _ _ 0 (pieces_cut space s) (omega arith) ∙ take_all n s (omega (arith, ap length none, length-drop n s))

one_plain : (s : List ℕ) → (eqb (word_count s) 1 && is_plain (word_at s 0)) ≡ is_plain s
unfolding word_count word_at
one_plain s =
    same_truth (eqb (length (pieces space s)) 1 && is_plain (word_at s 0)) (is_plain s)
    (λ t. ap is_plain (sym (one_whole s (eqb-true (word_count s) 1 (and_left _ (is_plain (word_at s 0)) t)))) ∙ and_right (eqb (word_count s) 1) _ t)
    (λ t. rw (plain_whole s t, t))

-- ---- a line by the two sides of its first space

swapped : (a b c : Bool) → (a && b && c) ≡ (b && (a && c))
swapped true b c = refl
swapped false true c = refl
swapped false false c = refl

module _ (line : List ℕ) (end : ℕ) (ends : EndsAt line 0 end) where
  pub one_word_only : end ≡ length line → false ≡ is_fact line
  unfolding is_fact
  one_word_only e = rw (sym (count_last line 0 2 2 refl end ends (omega arith) e))

  module _ (more : end ≡ length line → ⊥) where
    first_word : word_at line 0 ≡ take (end - 0) (drop 0 line)
    first_word = sym (word_here line 0 end 0 0 refl ends (omega arith))

    second_word : word_at line 1 ≡ word_at (drop (end + 1) line) 0
    second_word = sym (word_on line 0 end 1 1 refl ends (omega arith) more)

    two_words_lem : eqb (word_count line) 2 ≡ eqb (word_count (drop (end + 1) line)) 1
    two_words_lem = sym (count_on line 0 2 2 refl end ends (omega arith) more)

    by_sides : (is_plain (take (end - 0) (drop 0 line)) && is_plain (drop (end + 1) line)) ≡ is_fact line
    unfolding is_fact
    by_sides =
        sym
        (rw (first_word, two_words_lem, second_word)
        (swapped (eqb (word_count (drop (end + 1) line)) 1) (is_plain (take (end - 0) (drop 0 line))) (is_plain (word_at (drop (end + 1) line) 0)))
        ∙ ap (λ p. is_plain (take (end - 0) (drop 0 line)) && p) (one_plain (drop (end + 1) line)))

    module _ (b : Bool) (variable : b ≡ is_plain (take (end - 0) (drop 0 line))) where
      pub no_variable : not b ≡ true → false ≡ is_fact line
      no_variable t = ap (λ p. p && is_plain (drop (end + 1) line)) (sym (sym variable ∙ not_true b t)) ∙ by_sides

      pub by_value : not b ≡ false → (c : Bool) → c ≡ is_plain (take (length line - (end + 1)) (drop (end + 1) line)) → c ≡ is_fact line
      by_value t c e =
          e ∙ ap is_plain (from line (end + 1)) ∙ ap (λ p. p && is_plain (drop (end + 1) line)) (sym (sym variable ∙ not_false b t)) ∙ by_sides
