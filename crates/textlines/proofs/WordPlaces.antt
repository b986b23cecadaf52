-- Laws of words by their place: the words from a place of the line on are the one that begins there and those behind its end.
-- Assumes nothing.
use mathlib.Core.Path.{◌≡◌, refl, sym, ap, ap₂, ◌∙◌}
use mathlib.Core.List.{List, [], ◌∷◌}
use Prim.Native.Nat.{ℕ, zero, suc, ◌+◌, ◌-◌, ◌≤◌, ◌<◌, min}
use native.Mathlib.Omega.{arith}
use native.Mathlib.Numerals.{add-one}
use borrow.Author.Tests.{eq-eqb, eqb-true}
use lib.Dec.{eqb, eqb-suc-suc}
use lib.ListN.{length, take, drop, get_or, drop_of_length-le}
use lib.Seq.{drop-cons, drop-drop}
use Rattle.rules.specs.Text.{space}
use denote.Ref.{Bor}
use Rattle.std.specs.Prelude.{Option, None, Some}
use Rattle.std.specs.Option.{unwrap_or, option_map}
use Rattle.std.proofs.lemmas.Option.{unwrap_or-slice_get}
use Rattle.std.proofs.lemmas.List.{length-take}
use Rattle.std.proofs.lemmas.List.Splits.{length-slice_split}
use Rattle.std.proofs.lemmas.List.Sums.{length-filter}
use Rattle.std.specs.List.{slice_get, slice_split, onto_first, filter, count_by}
use Rattle.rules.specs.Lines.{onto, pieces}
use Rattle.rules.specs.Format.{word_at, word_count}
use Rattle.rules.proofs.Bools.{same_truth}
use Rattle.lent_bytes.specs.Words.{length_until, pieces_behind, EndsAt}
use Rattle.lent_bytes.proofs.WordLaws.{pieces_cut}

module _ (line : List ℕ) (at end : ℕ) (ends : EndsAt line at end) where
  pieces_from : pieces space (drop at line) ≡ take (end - at) (drop at line) ∷ pieces_behind space (drop end line)
  pieces_from =
      let until : length_until space (drop at line) ≡ end - at = omega (arith, ends.is, ends.behind) in
      let there : at + (end - at) ≡ end = omega (arith, ends.behind) in
      pieces_cut space (drop at line)
      ∙ ap₂ ◌∷◌ (ap (λ n. take n (drop at line)) until)
      (ap (pieces_behind space) (ap (λ n. drop n (drop at line)) until ∙ drop-drop (end - at) at line ∙ ap (λ n. drop n line) there))

  -- the last word, and one with a space behind it
  pieces_last : end ≡ length line → pieces space (drop at line) ≡ take (end - at) (drop at line) ∷ []
  unfolding pieces_behind
  pieces_last e =
      let none : drop end line ≡ [] = drop_of_length-le line {i = end} (omega arith) in
      pieces_from ∙ ap (λ l. take (end - at) (drop at line) ∷ pieces_behind space l) none

  pieces_next : (end ≡ length line → ⊥) → pieces space (drop at line) ≡ take (end - at) (drop at line) ∷ pieces space (drop (end + 1) line)
  unfolding pieces_behind
  pieces_next e =
      let some : drop end line ≡ get_or line end 0 ∷ drop (end + 1) line = rw (add-one end) (drop-cons line end 0 (omega (arith, ends.within))) in
      pieces_from ∙ ap (λ l. take (end - at) (drop at line) ∷ pieces_behind space l) some

-- ---- a word

pub word_first : (s w : List ℕ) (ws : List (List ℕ)) (k : ℕ) → pieces space s ≡ w ∷ ws → k ≤ 0 → word_at s k ≡ w
unfolding word_at
word_first s w ws zero e h = ap (λ l. get_or l 0 []) e
word_first s w ws (suc k) e h = absurd (omega arith)

word_later : (s w : List ℕ) (ws : List (List ℕ)) (k : ℕ) → pieces space s ≡ w ∷ ws → 0 < k → word_at s k ≡ get_or ws (k - 1) []
unfolding word_at
word_later s w ws zero e h = absurd (omega arith)
word_later s w ws (suc k) e h = let less : k ≡ suc k - 1 = omega arith in ap (λ l. get_or l (suc k) []) e ∙ ap (λ n. get_or ws n []) less

module _ (line : List ℕ) (at end before i : ℕ) (left : word_at (drop at line) before ≡ word_at line i) (ends : EndsAt line at end) where
  pub word_on : 0 < before → (end ≡ length line → ⊥) → word_at (drop (end + 1) line) (before - 1) ≡ word_at line i
  unfolding word_at
  word_on h e = sym (word_later _ _ _ before (pieces_next line at end ends e) h) ∙ left

  pub word_here : before ≤ 0 → take (end - at) (drop at line) ≡ word_at line i
  word_here h = sym (word_first _ _ _ before (pieces_from line at end ends) h) ∙ left

-- ---- how many

-- there is always one
pub count_some : (s : List ℕ) → 0 < word_count s
unfolding word_count
count_some s = rw (pieces_cut space s) (omega arith)

eqb_turned : (a b : ℕ) → eqb a b ≡ eqb b a
eqb_turned a b = same_truth (eqb a b) (eqb b a) (λ t. eq-eqb b a (sym (eqb-true a b t))) (λ t. eq-eqb a b (sym (eqb-true b a t)))

eqb_less : (a b : ℕ) → 0 < b → eqb (suc a) b ≡ eqb a (b - 1)
eqb_less a zero h = absurd (omega arith)
eqb_less a (suc b) h = let less : b ≡ suc b - 1 = omega arith in eqb-suc-suc a b ∙ ap (eqb a) less

module _ (line : List ℕ) (at left count : ℕ) (same : eqb (word_count (drop at line)) left ≡ eqb (word_count line) count) where
  module _ (end : ℕ) (ends : EndsAt line at end) where
    pub count_last : 0 < left → end ≡ length line → eqb left 1 ≡ eqb (word_count line) count
    unfolding word_count
    count_last h e = eqb_turned left 1 ∙ sym (ap (λ l. eqb (length l) left) (pieces_last line at end ends e)) ∙ same

    pub count_on : 0 < left → (end ≡ length line → ⊥) → eqb (word_count (drop (end + 1) line)) (left - 1) ≡ eqb (word_count line) count
    unfolding word_count
    count_on h e = sym (eqb_less (word_count (drop (end + 1) line)) left h) ∙ sym (ap (λ l. eqb (length l) left) (pieces_next line at end ends e)) ∙ same

-- ---- a line that is split at its spaces

onto_is : (b : ℕ) (ps : List (List ℕ)) → onto_first b ps ≡ onto b ps
onto_is b [] = refl
onto_is b (p ∷ ps) = refl

pub line_split : (s : List ℕ) → slice_split (λ b. eqb b space) s ≡ pieces space s
unfolding pieces
line_split [] = refl
line_split (b ∷ s) = rw (line_split s, onto_is b (pieces space s)) refl

pub count_split : (s : List ℕ) (n count : ℕ) → n ≡ length (slice_split (λ b. eqb b space) s) → eqb n count ≡ eqb (word_count s) count
unfolding word_count
count_split s n count e = ap (λ m. eqb m count) (e ∙ ap length (line_split s))

-- at most so many spaces are counted
pub count_spaces : (s : List ℕ) (n count : ℕ) → n ≡ length (take count (filter (λ b. eqb b space) s)) → eqb (n + 1) count ≡ eqb (word_count s) count
count_spaces s n count e =
    let p = λ (b : ℕ). eqb b space in
    let cut : n ≡ min count (count_by p s) = e ∙ length-take count (filter p s) ∙ ap (min count) (length-filter p s) in
    let words : length (slice_split p s) ≡ count_by p s + 1 = length-slice_split p s in
    same_truth (eqb (n + 1) count) (eqb (length (slice_split p s)) count)
    (λ t. eq-eqb _ _ (let same = eqb-true (n + 1) count t in omega (arith, same)))
    (λ t. eq-eqb _ _ (let same = eqb-true (length (slice_split p s)) count t in omega (arith, same)))
    ∙ count_split s _ count refl

module _ (s : List ℕ) (i : ℕ) (d w : Bor (List ℕ)) where
  unwrapped : (r : Option (Bor (List ℕ))) → w ≡ unwrap_or r d → d.now ≡ [] → w.now ≡ unwrap_or (option_map (λ b. b.now) r) []
  unwrapped None e n = ap (λ b. b.now) e ∙ n
  unwrapped (Some b) e n = ap (λ b. b.now) e

  pub word_split : (r : Option (Bor (List ℕ))) → option_map (λ b. b.now) r ≡ slice_get (slice_split (λ b. eqb b space) s) i
      → w ≡ unwrap_or r d → d.now ≡ [] → w.now ≡ word_at s i
  unfolding word_at
  word_split r e u n =
      unwrapped r u n ∙ ap (λ o. unwrap_or o []) e ∙ unwrap_or-slice_get (slice_split (λ b. eqb b space) s) i [] ∙ ap (λ l. get_or l i []) (line_split s)
