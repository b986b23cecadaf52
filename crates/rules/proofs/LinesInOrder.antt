-- Lines of the translator's text that are in order: each kind is read as what it says, and lines are read one behind the other.
-- Assumes nothing.
use Rattle.std.specs.Prelude.{Ok}
use mathlib.Core.Path.{◌≡◌, refl, ap, ◌∙◌}
use mathlib.Core.Logic.{◌⊎◌, inl, inr, ⊎_elim}
use mathlib.Core.Bool.{true, not, ◌||◌}
use mathlib.Core.List.{List, [], ◌∷◌, ◌++◌, foldl, foldl-append}
use Prim.Native.Nat.{ℕ, suc, ◌+◌, ◌^◌, ◌<◌}
use native.Mathlib.Omega.{arith}
use borrow.Author.Tests.{le-leb, eq-eqb, ne_eqb}
use lib.Dec.{eqb, lit<}
use lib.ListN.{length, length-append}
use Rattle.rules.specs.Counting.{every}
use Rattle.rules.specs.Limits.{max_text_digits}
use Rattle.rules.specs.Answers.{judge}
use Rattle.rules.specs.Task.{Pair}
use Rattle.rules.specs.File.{byte}
use Rattle.rules.specs.Text.{ascii, lf, space, digit0, decimal}
use Rattle.rules.specs.Lines.{pieces, agree, same}
use Rattle.rules.specs.Format.{Stated, Shape, keyword, name, layer, number, fact, effect, axiom_count, with_effect, shape_of, word_at, word_count, is_plain, is_minus_one, number_at, line_number, line_rules, lines_announced, stated}
use Rattle.rules.specs.Translation.{TextReading, shape_due, read_text_line, read_further}
use Rattle.rules.specs.declared.FormatLine.{FormatLine}
use Rattle.rules.specs.declared.FormatLine.TheVariants.{AxiomLayer, Effect, AxiomCount}
use Rattle.rules.proofs.Bools.{and_both, or_left, or_right, below_or}
use Rattle.rules.proofs.Counting.{every_one, every_append}
use Rattle.rules.proofs.Judging.{judge_cons, judge_nil}
use Rattle.rules.proofs.Decimal.{decimal_one, decimal_some, decimal_few}
use Rattle.rules.proofs.Spoken.{all_digits, value_back, leading, free, pieces_one, pieces_more, decimal_free}

-- ---- lines one behind the other

abbrev pub reading_at : ℕ → List FormatLine → Stated → TextReading
reading_at lines due s = record { verdict = Ok tt; lines = lines; due = due; stated = s }

abbrev pub step : TextReading → List ℕ → TextReading
step reading line = read_further reading.verdict reading line

-- the lines are read, wherever they stand, and none of them holds an LF
pub record Reads (lines : List (List ℕ)) (due : List FormatLine) (s : Stated) (due' : List FormatLine) (s' : Stated) : Type 0 where
  pub read : (at : ℕ) → foldl step (reading_at at due s) lines ≡ reading_at (at + length lines) due' s'
  pub whole : every (free lf) lines ≡ true

pub read_none : (due : List FormatLine) (s : Stated) → Reads [] due s due s
unfolding every
read_none due s = record { read = λ at. ap (λ n. reading_at n due s) (omega arith); whole = refl }

module _ (l m : List (List ℕ)) (due due' due'' : List FormatLine) (s s' s'' : Stated) where
  pub read_more : Reads l due s due' s' → Reads m due' s' due'' s'' → Reads (l ++ m) due s due'' s''
  read_more p q =
      record {
        read = λ at.
            foldl-append step (reading_at at due s) l m
            ∙ ap (λ r. foldl step r m) (p.read at)
            ∙ q.read (at + length l)
            ∙ ap (λ n. reading_at n due'' s'') (omega (arith, length-append l m));
        whole = every_append (free lf) l m p.whole q.whole;
      }

pub one_line : (line : List ℕ) (d : FormatLine) (due : List FormatLine) (s : Stated) → ((at : ℕ) → judge (line_rules (shape_of d) at line) ≡ Ok tt) → free lf line ≡ true
    → Reads (line ∷ []) (d ∷ due) s (lines_announced (shape_of d) line ++ due) (stated (shape_of d) line s)
unfolding read_text_line shape_due
one_line line d due s h f =
    record {
      read = λ at. rw (h (suc at)) (ap (λ n. reading_at n (lines_announced (shape_of d) line ++ due) (stated (shape_of d) line s)) (omega arith));
      whole = every_one (free lf) line f;
    }

-- ---- words and names

same_self : (w : List ℕ) → agree w w ≡ length w
unfolding agree
same_self [] = refl
same_self (b ∷ w) = rw (eq-eqb b b refl) (ap suc (same_self w))

both_same : (w : List ℕ) → same w w ≡ true
unfolding same
both_same w = rw (same_self w) (and_both _ _ (eq-eqb (length w) (length w) refl) (eq-eqb (length w) (length w) refl))

-- ---- numbers

-- what six digits can say
abbrev pub past_text : ℕ
past_text = 10 ^ suc 5

plain_first : (m : ℕ) → (not (eqb (byte (decimal m) 0) digit0) || eqb (length (decimal m)) 1) ≡ true
plain_first m =
    ⊎_elim (λ h. or_right (not (eqb (byte (decimal m) 0) digit0)) _ (eq-eqb (length (decimal m)) 1 (ap length (decimal_one m (omega arith)))))
    (λ h. or_left _ (eqb (length (decimal m)) 1) (ap not (ne_eqb (byte (decimal m) 0) digit0 (λ e. omega (arith, leading (suc m) m (omega arith) h)))))
    (below_or m 1)

pub plain : (m : ℕ) → m < past_text → is_plain (decimal m) ≡ true
unfolding is_plain
plain m h =
    and_both _ _ (and_both _ _ (and_both _ _ (le-leb 1 _ (decimal_some m)) (le-leb _ max_text_digits (decimal_few 5 m h))) (all_digits m)) (plain_first m)

-- a fact, and an effect without an old value
unfoldable pub fact_line : Pair → List ℕ
fact_line p = decimal p.variable ++ space ∷ decimal p.value

unfoldable pub effect_line : Pair → List ℕ
effect_line p = decimal 0 ++ space ∷ (decimal p.variable ++ space ∷ (ascii "-1" ++ space ∷ decimal p.value))

minus_one_free : (separator : ℕ) → (separator ≡ space) ⊎ (separator ≡ lf) → free separator (ascii "-1") ≡ true
unfolding ascii every
minus_one_free separator e = ⊎_elim (λ h. rw h refl) (λ h. rw h refl) e

fact_words : (p : Pair) → pieces space (fact_line p) ≡ decimal p.variable ∷ decimal p.value ∷ []
unfolding fact_line
fact_words p =
    pieces_more space (decimal p.variable) (decimal p.value) (decimal_free space p.variable (lit< tt))
    ∙ ap (λ ws. decimal p.variable ∷ ws) (pieces_one space (decimal p.value) (decimal_free space p.value (lit< tt)))

effect_words : (p : Pair) → pieces space (effect_line p) ≡ decimal 0 ∷ decimal p.variable ∷ ascii "-1" ∷ decimal p.value ∷ []
unfolding effect_line
effect_words p =
    pieces_more space (decimal 0) _ (decimal_free space 0 (lit< tt))
    ∙ ap (λ ws. decimal 0 ∷ ws)
    (pieces_more space (decimal p.variable) _ (decimal_free space p.variable (lit< tt))
    ∙ ap (λ ws. decimal p.variable ∷ ws)
    (pieces_more space (ascii "-1") _ (minus_one_free space (inl refl))
    ∙ ap (λ ws. ascii "-1" ∷ ws) (pieces_one space (decimal p.value) (decimal_free space p.value (lit< tt)))))

space_whole : (l r : List ℕ) → free lf l ≡ true → free lf r ≡ true → free lf (l ++ space ∷ r) ≡ true
unfolding every
space_whole l r f g = every_append (λ b. not (eqb b lf)) l (space ∷ r) f g

number_whole : (m : ℕ) → free lf (decimal m) ≡ true
number_whole m = decimal_free lf m (lit< tt)

fact_whole : (p : Pair) → free lf (fact_line p) ≡ true
unfolding fact_line
fact_whole p = space_whole _ _ (number_whole p.variable) (number_whole p.value)

effect_whole : (p : Pair) → free lf (effect_line p) ≡ true
unfolding effect_line
effect_whole p =
    space_whole _ _ (number_whole 0) (space_whole _ _ (number_whole p.variable) (space_whole _ _ (minus_one_free lf (inr refl)) (number_whole p.value)))

-- ---- a line of each kind

module _ (d : FormatLine) (due : List FormatLine) (s : Stated) where
  shaped : (shape : Shape) (line : List ℕ) → shape_of d ≡ shape → ((at : ℕ) → judge (line_rules shape at line) ≡ Ok tt) → free lf line ≡ true
      → Reads (line ∷ []) (d ∷ due) s (lines_announced shape line ++ due) (stated shape line s)
  shaped shape line e h f =
      rw (ap (λ shape. Reads (line ∷ []) (d ∷ due) s (lines_announced shape line ++ due) (stated shape line s)) e) at
      (one_line line d due s (λ at. rw e (h at)) f)

  pub read_keyword : (word : List ℕ) → shape_of d ≡ keyword word → free lf word ≡ true → Reads (word ∷ []) (d ∷ due) s due s
  unfolding line_rules lines_announced stated
  read_keyword word e f = shaped (keyword word) word e (λ at. judge_cons _ _ (both_same word) judge_nil) f

  pub read_name : (line : List ℕ) → shape_of d ≡ name → free lf line ≡ true → Reads (line ∷ []) (d ∷ due) s due s
  unfolding line_rules lines_announced stated
  read_name line e f = shaped name line e (λ at. judge_nil) f

  pub read_number : (announced : ℕ → List FormatLine) (states : ℕ → Stated → Stated) (m : ℕ) → shape_of d ≡ number announced states → m < past_text
      → Reads (decimal m ∷ []) (d ∷ due) s (announced m ++ due) (states m s)
  unfolding line_rules lines_announced stated line_number
  read_number announced states m e h =
      rw (ap (λ k. Reads (decimal m ∷ []) (d ∷ due) s (announced k ++ due) (states k s)) (value_back m)) at
      (shaped (number announced states) (decimal m) e (λ at. judge_cons _ _ (plain m h) judge_nil) (number_whole m))

  pub read_fact : (states : Pair → Stated → Stated) (p : Pair) → shape_of d ≡ fact states → p.variable < past_text → p.value < past_text
      → Reads (fact_line p ∷ []) (d ∷ due) s due (states p s)
  unfolding line_rules lines_announced stated word_at word_count number_at
  read_fact states p e h k =
      rw (fact_words p, value_back p.variable, value_back p.value) at
      (shaped (fact states) (fact_line p) e
      (λ at. judge_cons _ _ (rw (fact_words p) (and_both _ _ (plain p.variable h) (plain p.value k))) judge_nil) (fact_whole p))

module _ (due : List FormatLine) (s : Stated) where
  pub read_layer : Reads (ascii "-1" ∷ []) (AxiomLayer ∷ due) s due s
  unfolding line_rules lines_announced stated word_at word_count is_plain is_minus_one pieces same agree ascii judge every
  read_layer = shaped AxiomLayer due s layer (ascii "-1") refl (λ at. refl) refl

  pub read_axioms : Reads (decimal 0 ∷ []) (AxiomCount ∷ due) s due s
  unfolding line_rules lines_announced stated word_at word_count number_at
  read_axioms =
      let words : pieces space (decimal 0) ≡ decimal 0 ∷ [] = pieces_one space (decimal 0) (decimal_free space 0 (lit< tt)) in
      shaped AxiomCount due s axiom_count (decimal 0) refl
      (λ at. judge_cons _ _ (rw words (plain 0 (lit< tt))) (judge_cons _ _ (rw (words, value_back 0) refl) (judge_cons _ _ (rw words refl) judge_nil))) (number_whole 0)

  pub read_effect : (p : Pair) → p.variable < past_text → p.value < past_text → Reads (effect_line p ∷ []) (Effect ∷ due) s due (with_effect p s)
  unfolding line_rules lines_announced stated word_at word_count number_at is_minus_one
  read_effect p h k =
      let one : same (ascii "-1") (ascii "-1") ≡ true = both_same (ascii "-1") in
      rw (effect_words p, one, value_back p.variable, value_back p.value) at
      (shaped Effect due s effect (effect_line p) refl
      (λ at.
      judge_cons _ _ (rw (effect_words p) (plain 0 (lit< tt)))
      (judge_cons _ _ (rw (effect_words p, value_back 0) refl)
      (judge_cons _ _ (rw (effect_words p, one, plain p.variable h, plain p.value k) (and_both (is_plain (ascii "-1") || true) true (or_right (is_plain (ascii "-1")) true refl) refl)) judge_nil)))
      (effect_whole p))
