-- A line is decided by its first 32 bytes: behind them nothing can mend a keyword, a number or a fact, and where the first word decides it is
-- shorter, or no number.
-- Assumes nothing.
use mathlib.Core.Path.{◌≡◌, refl, sym, ap, ◌∙◌}
use mathlib.Core.Logic.{⊎_elim}
use mathlib.Core.Bool.{Bool, true, false, ◌&&◌}
use mathlib.Core.List.{List, [], ◌∷◌}
use Prim.Native.Nat.{ℕ, zero, suc, ◌+◌, ◌≤◌, ◌<◌}
use native.Mathlib.Omega.{arith}
use borrow.Author.Tests.{ne_eqb, eqb-true, ltb-true}
use lib.Dec.{eqb, leb, ltb}
use lib.ListN.{length, take, drop, get_or, length-take, drop_of_length-le}
use lib.Seq.{drop-cons, take_all}
use Rattle.std.specs.Prelude.{Result}
use Rattle.rules.specs.Limits.{max_text_digits}
use Rattle.rules.specs.Answers.{Rule, demand, judge}
use Rattle.rules.specs.Task.{Pair}
use Rattle.rules.specs.Text.{ascii, space}
use Rattle.rules.specs.Lines.{onto, pieces, agree, same, value_from}
use Rattle.rules.specs.Format.{Stated, Shape, keyword, name, version, metric, layer, number, fact, effect, axiom_count, nothing, shape_of, line_rules, word_at, word_count, is_plain, is_minus_one, number_at, line_number}
use Rattle.rules.specs.declared.FormatLine.{FormatLine}
use Rattle.rules.specs.declared.FormatLine.TheVariants.{BeginVersion, Version, EndVersion, BeginMetric, Metric, EndMetric, VariableCount, BeginVariable, VariableName, AxiomLayer, Range, AtomName, EndVariable, MutexGroupCount, BeginMutexGroup, MutexFactCount, MutexFact, EndMutexGroup, BeginState, StateValue, EndState, BeginGoal, GoalCount, GoalFact, EndGoal, OperatorCount, BeginOperator, OperatorName, PrevailCount, PrevailCondition, EffectCount, Effect, Cost, EndOperator, AxiomCount, EndOfText}
use Rattle.rules.specs.declared.Refusal.{Refusal}
use Rattle.rules.specs.declared.Refusal.TheVariants.{AgainstFormat, AxiomOrCondition}
use Rattle.rules.proofs.Bools.{either, clash, and_left, and_right, below_or}
use Rattle.textlines.specs.Says.{no_numbers, numbers_in, said_by, shape_says, says_as, against_format, deciding, is_fact, is_signed, is_effect}
use Rattle.textlines.specs.declared.Numbers.{Numbers}
use Rattle.textlines.proofs.PlainLaws.{plain_long}
use Rattle.textlines.proofs.ShapeLaws.{stops}

-- ---- what is long is no keyword and no number

agree_most : (s t : List ℕ) → agree s t ≤ length t
unfolding agree
agree_most [] t = omega arith
agree_most (a ∷ s) [] = omega arith
agree_most (a ∷ s) (b ∷ t) = ⊎_elim (λ e. rw e (omega (arith, agree_most s t))) (λ e. rw e (omega arith)) (either (eqb a b))

long_other : (s t : List ℕ) → length t < length s → same s t ≡ false
unfolding same
long_other s t h = rw (ne_eqb (agree s t) (length s) (λ e. omega (arith, e, agree_most s t)))

long_number : (s : List ℕ) → max_text_digits < length s → is_plain s ≡ false
long_number s h = sym (plain_long s h)

long_minus : (s : List ℕ) → max_text_digits < length s → is_minus_one s ≡ false
unfolding is_minus_one ascii
long_minus s h = long_other s (ascii "-1") (omega arith)

number_short : (s : List ℕ) → is_plain s ≡ true → length s ≤ max_text_digits
number_short s t = ⊎_elim (λ l. clash t (long_number s l)) (λ l. l) (below_or max_text_digits (length s))

long_signed : (s : List ℕ) → max_text_digits < length s → is_signed s ≡ false
unfolding is_signed
long_signed s h = rw (long_number s h, long_minus s h)

signed_short : (s : List ℕ) → is_signed s ≡ true → length s ≤ max_text_digits
signed_short s t = ⊎_elim (λ l. clash t (long_signed s l)) (λ l. l) (below_or max_text_digits (length s))

-- ---- a line is as long as its words and the spaces between them

total : List (List ℕ) → ℕ
total [] = 0
total (p ∷ ps) = suc (length p) + total ps

total_onto : (b : ℕ) (ps : List (List ℕ)) → 0 < total ps → total (onto b ps) ≡ suc (total ps)
unfolding total
total_onto b [] h = absurd (omega arith)
total_onto b (p ∷ ps) h = omega arith

total_pieces : (separator : ℕ) (s : List ℕ) → total (pieces separator s) ≡ suc (length s)
unfolding total pieces
total_pieces separator [] = omega arith
total_pieces separator (b ∷ s) =
    ⊎_elim (λ e. rw e (omega (arith, total_pieces separator s)))
    (λ e. rw e (omega (arith, total_pieces separator s, total_onto b (pieces separator s) (omega (arith, total_pieces separator s)))))
    (either (eqb b separator))

total_step : (ps : List (List ℕ)) (i : ℕ) → i < length ps → total (drop i ps) ≡ suc (length (get_or ps i [])) + total (drop (suc i) ps)
unfolding total
total_step ps i h = rw (drop-cons ps i [] h)

total_end : (ps : List (List ℕ)) (i : ℕ) → length ps ≤ i → total (drop i ps) ≡ 0
unfolding total
total_end ps i h = ap total (drop_of_length-le ps {i = i} h)

one_word : (s : List ℕ) → word_count s ≡ 1 → length s ≡ length (word_at s 0)
unfolding word_count word_at
one_word s e = omega (arith, total_pieces space s, total_step (pieces space s) 0 (omega arith), total_end (pieces space s) 1 (omega arith))

-- ---- what is long is no fact and no effect

fact_short : (s : List ℕ) → is_fact s ≡ true → length s < deciding
unfolding is_fact word_count word_at
fact_short s t =
    let ps : List (List ℕ) = pieces space s in
    let a : Bool = eqb (length ps) 2 in
    let b : Bool = is_plain (get_or ps 0 []) in
    let c : Bool = is_plain (get_or ps 1 []) in
    let front : (a && b) ≡ true = and_left (a && b) c t in
    let two : length ps ≡ 2 = eqb-true (length ps) 2 (and_left a b front) in
    omega (
      arith,
      total_pieces space s,
      total_step ps 0 (omega arith),
      total_step ps 1 (omega arith),
      total_end ps 2 (omega arith),
      number_short (get_or ps 0 []) (and_right a b front),
      number_short (get_or ps 1 []) (and_right (a && b) c t),
    )

effect_short : (s : List ℕ) → is_plain (word_at s 0) ≡ true → is_effect s ≡ true → length s < deciding
unfolding is_effect word_count word_at
effect_short s p t =
    let ps : List (List ℕ) = pieces space s in
    let a : Bool = eqb (length ps) 4 in
    let b : Bool = is_plain (get_or ps 1 []) in
    let c : Bool = is_signed (get_or ps 2 []) in
    let d : Bool = is_plain (get_or ps 3 []) in
    let three : (a && b && c) ≡ true = and_left (a && b && c) d t in
    let two : (a && b) ≡ true = and_left (a && b) c three in
    let four : length ps ≡ 4 = eqb-true (length ps) 4 (and_left a b two) in
    omega (
      arith,
      total_pieces space s,
      total_step ps 0 (omega arith),
      total_step ps 1 (omega arith),
      total_step ps 2 (omega arith),
      total_step ps 3 (omega arith),
      total_end ps 4 (omega arith),
      number_short (get_or ps 0 []) p,
      number_short (get_or ps 1 []) (and_right a b two),
      signed_short (get_or ps 2 []) (and_right (a && b) c three),
      number_short (get_or ps 3 []) (and_right (a && b && c) d t),
    )

-- a test that only what is short can pass
not_long : (s : List ℕ) (b : Bool) → deciding ≤ length s → (b ≡ true → length s < deciding) → b ≡ false
not_long s b h short = ⊎_elim (λ t. absurd (omega (arith, short t))) (λ t. t) (either b)

-- ---- the first word

onto_first : (b : ℕ) (ps : List (List ℕ)) → get_or (onto b ps) 0 [] ≡ b ∷ get_or ps 0 []
onto_first b [] = refl
onto_first b (p ∷ ps) = refl

piece_taken : (separator n : ℕ) (s : List ℕ) → get_or (pieces separator (take n s)) 0 [] ≡ take n (get_or (pieces separator s) 0 [])
unfolding pieces
piece_taken separator zero s = refl
piece_taken separator (suc n) [] = refl
piece_taken separator (suc n) (b ∷ s) =
    ⊎_elim (λ e. rw e refl)
    (λ e.
    rw e
    (onto_first b (pieces separator (take n s))
    ∙ ap (λ p. b ∷ p) (piece_taken separator n s)
    ∙ sym (ap (take (suc n)) (onto_first b (pieces separator s)))))
    (either (eqb b separator))

word_taken : (n : ℕ) (s : List ℕ) → word_at (take n s) 0 ≡ take n (word_at s 0)
unfolding word_at
word_taken n s = piece_taken space n s

-- ---- every keyword is shorter

abbrev fits : Shape → Bool
fits (keyword word) = ltb (length word) deciding
fits name = true
fits version = true
fits metric = true
fits layer = true
fits (number announced states) = true
fits (fact states) = true
fits effect = true
fits axiom_count = true
fits nothing = true

all_fit : (due : FormatLine) → fits (shape_of due) ≡ true
unfolding ascii
all_fit BeginVersion = refl
all_fit Version = refl
all_fit EndVersion = refl
all_fit BeginMetric = refl
all_fit Metric = refl
all_fit EndMetric = refl
all_fit VariableCount = refl
all_fit BeginVariable = refl
all_fit VariableName = refl
all_fit AxiomLayer = refl
all_fit Range = refl
all_fit AtomName = refl
all_fit EndVariable = refl
all_fit MutexGroupCount = refl
all_fit BeginMutexGroup = refl
all_fit MutexFactCount = refl
all_fit MutexFact = refl
all_fit EndMutexGroup = refl
all_fit BeginState = refl
all_fit StateValue = refl
all_fit EndState = refl
all_fit BeginGoal = refl
all_fit GoalCount = refl
all_fit GoalFact = refl
all_fit EndGoal = refl
all_fit OperatorCount = refl
all_fit BeginOperator = refl
all_fit OperatorName = refl
all_fit PrevailCount = refl
all_fit PrevailCondition = refl
all_fit EffectCount = refl
all_fit Effect = refl
all_fit Cost = refl
all_fit EndOperator = refl
all_fit AxiomCount = refl
all_fit EndOfText = refl

-- ---- a long line is answered by its first word alone

module _ (at : ℕ) where
  record ByFirst (says : List ℕ → Result Numbers Refusal) : Type 0 where
    by : List ℕ → Result Numbers Refusal
    long : (s : List ℕ) → deciding ≤ length s → says s ≡ by (word_at s 0)
    against : (w : List ℕ) → max_text_digits < length w → by w ≡ against_format at

  first_same : (says : List ℕ → Result Numbers Refusal) (f : ByFirst says) (w : List ℕ) → f.by w ≡ f.by (take deciding w)
  first_same says f w =
      ⊎_elim
      (λ l. f.against w (omega arith) ∙ sym (f.against (take deciding w) (omega (arith, length-take deciding w))))
      (λ l. ap f.by (sym (take_all deciding w l)))
      (below_or deciding (length w))

  decided : (says : List ℕ → Result Numbers Refusal) → ByFirst says → (line : List ℕ) → says line ≡ says (take deciding line)
  decided says f line =
      ⊎_elim
      (λ l.
      f.long line (omega arith)
      ∙ first_same says f (word_at line 0)
      ∙ ap f.by (sym (word_taken deciding line))
      ∙ sym (f.long (take deciding line) (omega (arith, length-take deciding line))))
      (λ l. ap says (sym (take_all deciding line l)))
      (below_or deciding (length line))

  -- refused whatever its first word is
  never : (says : List ℕ → Result Numbers Refusal) → ((s : List ℕ) → deciding ≤ length s → says s ≡ against_format at) → ByFirst says
  never says h = record { by = λ w. against_format at; long = h; against = λ w l. refl }

  -- the first word, the number that it has to be, and the rest
  abbrev in_order : (first due rest : Bool) → List Rule
  in_order first due rest = demand first (AgainstFormat at) ∷ demand due (AxiomOrCondition at) ∷ demand rest (AgainstFormat at) ∷ []

  no_rest : (first due rest : Bool) (says : Numbers) → (first ≡ true → rest ≡ false)
      → said_by (judge (in_order first due rest)) says ≡ said_by (judge (in_order first due false)) no_numbers
  unfolding judge
  no_rest true true rest says h = rw (h refl) refl
  no_rest true false rest says h = refl
  no_rest false due rest says h = refl

  first_then_rest : (first due rest : List ℕ → Bool) (says : List ℕ → Numbers)
      → ((w : List ℕ) → max_text_digits < length w → first w ≡ false)
      → ((s : List ℕ) → deciding ≤ length s → first (word_at s 0) ≡ true → rest s ≡ false)
      → ByFirst (λ s. said_by (judge (in_order (first (word_at s 0)) (due (word_at s 0)) (rest s))) (says s))
  first_then_rest first due rest says no-first none =
      record {
        by = λ w. said_by (judge (in_order (first w) (due w) false)) no_numbers;
        long = λ s l. no_rest (first (word_at s 0)) (due (word_at s 0)) (rest s) (says s) (none s l);
        against = λ w l. sym (stops (first w) (AgainstFormat at) _ no_numbers (no-first w l));
      }

  -- ---- the shapes

  keyword_long : (word s : List ℕ) → length word < deciding → deciding ≤ length s → shape_says (keyword word) at s ≡ against_format at
  unfolding shape_says line_rules numbers_in
  keyword_long word s h l = sym (stops (same s word) (AgainstFormat at) [] no_numbers (long_other s word (omega arith)))

  version_long : (s : List ℕ) → deciding ≤ length s → shape_says version at s ≡ against_format at
  unfolding shape_says line_rules numbers_in
  version_long s l = sym (stops (is_plain s) (AgainstFormat at) _ no_numbers (long_number s (omega arith)))

  metric_long : (s : List ℕ) → deciding ≤ length s → shape_says metric at s ≡ against_format at
  unfolding shape_says line_rules numbers_in
  metric_long s l = sym (stops _ (AgainstFormat at) [] no_numbers (ap (λ b. b && leb (line_number s) 1) (long_number s (omega arith))))

  number_long : (announced : ℕ → List FormatLine) (states : ℕ → Stated → Stated) (s : List ℕ)
      → deciding ≤ length s → shape_says (number announced states) at s ≡ against_format at
  unfolding shape_says line_rules
  number_long announced states s l = sym (stops (is_plain s) (AgainstFormat at) [] _ (long_number s (omega arith)))

  fact_long : (states : Pair → Stated → Stated) (s : List ℕ) → deciding ≤ length s → shape_says (fact states) at s ≡ against_format at
  unfolding shape_says line_rules is_fact
  fact_long states s l = sym (stops _ (AgainstFormat at) [] _ (not_long s (is_fact s) l (fact_short s)))

  layer_by_first : ByFirst (shape_says layer at)
  unfolding shape_says line_rules numbers_in is_signed
  layer_by_first =
      first_then_rest is_signed is_minus_one (λ s. eqb (word_count s) 1) (λ s. no_numbers) long_signed
      (λ s l t. not_long s (eqb (word_count s) 1) l (λ e. omega (arith, one_word s (eqb-true (word_count s) 1 e), signed_short (word_at s 0) t)))

  axioms_by_first : ByFirst (shape_says axiom_count at)
  unfolding shape_says line_rules numbers_in number_at
  axioms_by_first =
      first_then_rest is_plain (λ w. eqb (value_from 0 w) 0) (λ s. eqb (word_count s) 1) (λ s. no_numbers) long_number
      (λ s l t. not_long s (eqb (word_count s) 1) l (λ e. omega (arith, one_word s (eqb-true (word_count s) 1 e), number_short (word_at s 0) t)))

  effect_by_first : ByFirst (shape_says effect at)
  unfolding shape_says line_rules number_at is_effect is_signed
  effect_by_first =
      first_then_rest is_plain (λ w. eqb (value_from 0 w) 0) is_effect (numbers_in effect) long_number
      (λ s l t. not_long s (is_effect s) l (effect_short s t))

  shape_decided : (shape : Shape) → fits shape ≡ true → (line : List ℕ) → shape_says shape at line ≡ shape_says shape at (take deciding line)
  unfolding shape_says line_rules numbers_in
  shape_decided (keyword word) t line = decided _ (never _ (λ s l. keyword_long word s (ltb-true (length word) deciding t) l)) line
  shape_decided name t line = refl
  shape_decided version t line = decided _ (never _ version_long) line
  shape_decided metric t line = decided _ (never _ metric_long) line
  shape_decided layer t line = decided _ layer_by_first line
  shape_decided (number announced states) t line = decided _ (never _ (number_long announced states)) line
  shape_decided (fact states) t line = decided _ (never _ (fact_long states)) line
  shape_decided effect t line = decided _ effect_by_first line
  shape_decided axiom_count t line = decided _ axioms_by_first line
  shape_decided nothing t line = refl

-- a line says what its first bytes say
pub decided_by_head : (due : FormatLine) (at : ℕ) (line : List ℕ) → says_as due at line ≡ says_as due at (take deciding line)
unfolding says_as
decided_by_head due at line = shape_decided at (shape_of due) (all_fit due) line
