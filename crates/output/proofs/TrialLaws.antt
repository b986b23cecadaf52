-- Laws of the trial: how a piece is judged, and what the pieces of a line come to.
-- Assumes nothing.
use mathlib.Core.Path.{◌≡◌, refl, sym, ap, ap₂, ◌∙◌}
use mathlib.Core.Logic.{⊎_elim}
use mathlib.Core.Bool.{Bool, true, false, not, ◌&&◌, ◌||◌}
use mathlib.Core.List.{List, [], ◌∷◌}
use Prim.Native.Nat.{ℕ, suc, ◌+◌, ◌-◌, ◌≤◌, ◌<◌}
use Rattle.std.specs.Prelude.{Result, Ok, Err}
use native.Mathlib.Omega.{arith}
use borrow.Author.Tests.{eq-eqb, ne_eqb, le-leb, lt-leb, lt-ltb, le-ltb}
use mir.Syntax.{w64}
use mir.Val.{Fits}
use lib.Dec.{eqb, leb}
use lib.ListN.{length, get_or, take, drop, length-take, length-drop, drop_of_length-le}
use lib.Seq.{drop-cons, drop-drop}
use native.Mathlib.Numerals.{add-one}
use Rattle.rules.specs.Counting.{first, any}
use Rattle.rules.specs.Limits.{max_line}
use Rattle.rules.specs.Answers.{demand, judge, Verdict}
use Rattle.rules.specs.Text.{space}
use Rattle.rules.specs.Rows.{bit_of_variable, with_variable}
use Rattle.rules.specs.Lines.{reach, is_number, is_negative, variable_of, names, Scan, word_rules, scan_word, scan_piece}
use Rattle.rules.specs.declared.Refusal.{Refusal}
use Rattle.rules.specs.declared.Refusal.TheVariants.{Grammar, OutOfPlace, OverN, GivenBefore}
use Rattle.rules.proofs.Bools.{either, or_right}
use Rattle.rules.proofs.Judging.{judge_nil, judge_refused, judge_passed}
use Rattle.lent_bytes.specs.Words.{length_until, pieces_behind, EndsAt}
use Rattle.output.specs.Words.{word_of}
use Rattle.output.specs.Trial.{written, piece_scan, PieceTrial, piece_leaves, piece_trial, try_piece, Trial, trial_leaves, trial, first_gap, number_pieces, rewritten}
use Rattle.output.specs.declared.words.Number.{Number}
use Rattle.lent_bytes.proofs.WordLaws.{pieces_cut}
use Rattle.output.proofs.WordLaws.{reach_most}

-- ---- what the answer on a word says of it

abbrev number : List ℕ → Number
number p = record { variable = variable_of p; negative = is_negative p }

no_number : (p : List ℕ) (r : ℕ) → Err r ≡ word_of p → is_number p ≡ false
unfolding word_of
no_number p r e = ⊎_elim (λ t. let f : ◌≡◌ {A = Result Number ℕ} (Err r) (Ok (number p)) = rw t at e in cc) (λ t. t) (either (is_number p))

reached_is : (p : List ℕ) (r : ℕ) → Err r ≡ word_of p → r ≡ reach p
unfolding word_of
reached_is p r e = let f : ◌≡◌ {A = Result Number ℕ} (Err r) (Err (reach p)) = rw (no_number p r e) at e in cc

is_number_lem : (p : List ℕ) (m : Number) → Ok m ≡ word_of p → is_number p ≡ true
unfolding word_of
is_number_lem p m e = ⊎_elim (λ t. t) (λ t. let f : ◌≡◌ {A = Result Number ℕ} (Ok m) (Err (reach p)) = rw t at e in cc) (either (is_number p))

number_parts : (p : List ℕ) (m : Number) → Ok m ≡ word_of p → m ≡ number p
unfolding word_of
number_parts p m e = let f : ◌≡◌ {A = Result Number ℕ} (Ok m) (Ok (number p)) = rw (is_number_lem p m e) at e in cc

variable_is : (p : List ℕ) (m : Number) → Ok m ≡ word_of p → m.variable ≡ variable_of p
variable_is p m e = ap (λ m. m.variable) (number_parts p m e)

sign_is : (p : List ℕ) (m : Number) → Ok m ≡ word_of p → m.negative ≡ is_negative p
sign_is p m e = ap (λ m. m.negative) (number_parts p m e)

pub reached_fits : (p : List ℕ) (w : Result Number ℕ) (r at : ℕ) → at ≤ max_line + 1 → w ≡ word_of p → w ≡ Err r → Fits w64 (at + r)
reached_fits p w r at h e f = record { fits = omega (arith, reached_is p r (sym f ∙ e), reach_most p) }

-- ---- one piece

abbrev scan_at : ℕ → Bool → Scan
scan_at at closed = record { verdict = Ok tt; at = at; closed = closed; named = [] }

word_scan : (highest : ℕ) (row : List ℕ) (at : ℕ) (closed : Bool) (p : List ℕ) → (length p ≡ 0 → ⊥)
    → piece_scan highest row at closed p ≡ scan_word highest row (scan_at at closed) p
unfolding piece_scan scan_piece
word_scan highest row at closed [] h = absurd (h refl)
word_scan highest row at closed (b ∷ p) h = refl

pub try_empty : (highest : ℕ) (row : List ℕ) (at : ℕ) (closed : Bool) (p : List ℕ) → length p ≡ 0
    → ◌≡◌ {A = PieceTrial} (piece_leaves (Ok closed) row) (try_piece highest row at closed p)
unfolding try_piece piece_scan scan_piece written is_number reach first
try_empty highest row at closed [] h = refl
try_empty highest row at closed (b ∷ p) h = absurd (omega arith)

module _ (highest : ℕ) (row : List ℕ) (at : ℕ) (closed : Bool) (p : List ℕ) (h : length p ≡ 0 → ⊥) where
  try_refused : (why : Refusal) → judge (word_rules highest row (scan_at at closed) p) ≡ Err why
      → ◌≡◌ {A = PieceTrial} (piece_leaves (Err why) row) (try_piece highest row at closed p)
  unfolding try_piece scan_word
  try_refused why e = rw (word_scan highest row at closed p h, e)

  try_passed : judge (word_rules highest row (scan_at at closed) p) ≡ Ok tt
      → ◌≡◌ {A = PieceTrial} (piece_leaves (Ok (closed || eqb (variable_of p) 0)) (written true row p)) (try_piece highest row at closed p)
  unfolding try_piece scan_word
  try_passed e = rw (word_scan highest row at closed p h, e)

-- the rules of a word in their order: each refuses where those before it hold
module _ (highest : ℕ) (row : List ℕ) (scan : Scan) (p : List ℕ) where
  abbrev verdict : Verdict
  verdict = judge (word_rules highest row scan p)

  refuses_11 : is_number p ≡ false → verdict ≡ Err (Grammar (scan.at + reach p))
  unfolding word_rules
  refuses_11 a = judge_refused (demand (is_number p) (Grammar (scan.at + reach p))) _ a

  refuses_12 : is_number p ≡ true → scan.closed ≡ true → verdict ≡ Err (OutOfPlace scan.at)
  unfolding word_rules
  refuses_12 a b =
      judge_passed (demand (is_number p) (Grammar (scan.at + reach p))) _ a
      ∙ judge_refused (demand (not scan.closed) (OutOfPlace scan.at)) _ (ap not b)

  refuses_13 : is_number p ≡ true → scan.closed ≡ false → highest < variable_of p → verdict ≡ Err (OverN scan.at)
  unfolding word_rules
  refuses_13 a b c =
      judge_passed (demand (is_number p) (Grammar (scan.at + reach p))) _ a
      ∙ judge_passed (demand (not scan.closed) (OutOfPlace scan.at)) _ (ap not b)
      ∙ judge_refused (demand (leb (variable_of p) highest) (OverN scan.at)) _ (lt-leb _ _ c)

  -- the fourth decides
  last_rule_lem : (t : Bool) → is_number p ≡ true → scan.closed ≡ false → variable_of p ≤ highest
      → eqb (variable_of p) 0 || not (bit_of_variable row (variable_of p) || any (names (variable_of p)) scan.named) ≡ t
      → verdict ≡ judge (demand t (GivenBefore scan.at) ∷ [])
  unfolding word_rules
  last_rule_lem t a b c d =
      judge_passed (demand (is_number p) (Grammar (scan.at + reach p))) _ a
      ∙ judge_passed (demand (not scan.closed) (OutOfPlace scan.at)) _ (ap not b)
      ∙ judge_passed (demand (leb (variable_of p) highest) (OverN scan.at)) _ (le-leb _ _ c)
      ∙ ap (λ t. judge (demand t (GivenBefore scan.at) ∷ [])) d

  refuses_14 : is_number p ≡ true → scan.closed ≡ false → variable_of p ≤ highest
      → eqb (variable_of p) 0 || not (bit_of_variable row (variable_of p) || any (names (variable_of p)) scan.named) ≡ false
      → verdict ≡ Err (GivenBefore scan.at)
  refuses_14 a b c d = last_rule_lem false a b c d ∙ judge_refused (demand false (GivenBefore scan.at)) [] refl

  passes : is_number p ≡ true → scan.closed ≡ false → variable_of p ≤ highest
      → eqb (variable_of p) 0 || not (bit_of_variable row (variable_of p) || any (names (variable_of p)) scan.named) ≡ true
      → verdict ≡ Ok tt
  passes a b c d = last_rule_lem true a b c d ∙ judge_passed (demand true (GivenBefore scan.at)) [] refl ∙ judge_nil

-- a word writes the bit of the variable that it names
pub written_none : (on : Bool) (row p : List ℕ) → variable_of p ≡ 0 → written on row p ≡ row
unfolding written
written_none on row p u = ⊎_elim (λ t. rw t (rw (eq-eqb (variable_of p) 0 u))) (λ t. rw t) (either (is_number p))

pub written_one : (on : Bool) (row p : List ℕ) → is_number p ≡ true → (variable_of p ≡ 0 → ⊥) → written on row p ≡ with_variable row (variable_of p) on
unfolding written
written_one on row p a u = rw (a, ne_eqb (variable_of p) 0 u)

fresh : (row : List ℕ) (v : ℕ) → bit_of_variable row v ≡ false → eqb v 0 || not (bit_of_variable row v || any (names v) []) ≡ true
unfolding any
fresh row v b = rw b (or_right (eqb v 0) true refl)

-- ---- the exits of the function that takes a piece

module _ (highest : ℕ) (row : List ℕ) (at : ℕ) (closed : Bool) (p : List ℕ) (h : length p ≡ 0 → ⊥) (w : Result Number ℕ) (e : w ≡ word_of p) where
  pub piece_broken : (r : ℕ) → w ≡ Err r
      → ◌≡◌ {A = PieceTrial} (piece_leaves (Err (Grammar (at + r))) row) (try_piece highest row at closed p)
  piece_broken r f =
      ap (λ r. piece_leaves (Err (Grammar (at + r))) row) (reached_is p r (sym f ∙ e))
      ∙ try_refused highest row at closed p h (Grammar (at + reach p)) (refuses_11 highest row (scan_at at closed) p (no_number p r (sym f ∙ e)))

  module _ (m : Number) (f : w ≡ Ok m) where
    pub piece_closed : closed ≡ true
        → ◌≡◌ {A = PieceTrial} (piece_leaves (Err (OutOfPlace at)) row) (try_piece highest row at closed p)
    piece_closed b = try_refused highest row at closed p h (OutOfPlace at) (refuses_12 highest row (scan_at at closed) p (is_number_lem p m (sym f ∙ e)) b)

    pub piece_over : closed ≡ false → highest < m.variable
        → ◌≡◌ {A = PieceTrial} (piece_leaves (Err (OverN at)) row) (try_piece highest row at closed p)
    piece_over b c =
        try_refused highest row at closed p h (OverN at)
        (refuses_13 highest row (scan_at at closed) p (is_number_lem p m (sym f ∙ e)) b (omega (arith, variable_is p m (sym f ∙ e))))

    pub piece_zero : closed ≡ false → m.variable ≤ highest → m.variable ≡ 0
        → ◌≡◌ {A = PieceTrial} (piece_leaves (Ok true) row) (try_piece highest row at closed p)
    piece_zero b c z =
        let a : is_number p ≡ true = is_number_lem p m (sym f ∙ e) in
        let u : variable_of p ≡ 0 = sym (variable_is p m (sym f ∙ e)) ∙ z in
        ap₂ (λ t r. piece_leaves (Ok t) r) (sym (rw (b, eq-eqb (variable_of p) 0 u))) (sym (written_none true row p u))
        ∙ try_passed highest row at closed p h (passes highest row (scan_at at closed) p a b (omega arith) (rw (eq-eqb (variable_of p) 0 u)))

    pub piece_before : (s : Bool) → closed ≡ false → m.variable ≤ highest → (m.variable ≡ 0 → ⊥) → s ≡ bit_of_variable row m.variable → s ≡ true
        → ◌≡◌ {A = PieceTrial} (piece_leaves (Err (GivenBefore at)) row) (try_piece highest row at closed p)
    piece_before s b c z g t =
        let u : m.variable ≡ variable_of p = variable_is p m (sym f ∙ e) in
        let bit : bit_of_variable row (variable_of p) ≡ true = ap (bit_of_variable row) (sym u) ∙ sym g ∙ t in
        try_refused highest row at closed p h (GivenBefore at)
        (refuses_14 highest row (scan_at at closed) p (is_number_lem p m (sym f ∙ e)) b (omega arith) (rw (ne_eqb (variable_of p) 0 (λ o. z (u ∙ o)), bit)))

    pub piece_new : (s : Bool) (marked : List ℕ) → closed ≡ false → m.variable ≤ highest → (m.variable ≡ 0 → ⊥) → s ≡ bit_of_variable row m.variable → s ≡ false
        → marked ≡ with_variable row m.variable true
        → ◌≡◌ {A = PieceTrial} (piece_leaves (Ok false) marked) (try_piece highest row at closed p)
    piece_new s marked b c z g t k =
        let a : is_number p ≡ true = is_number_lem p m (sym f ∙ e) in
        let u : m.variable ≡ variable_of p = variable_is p m (sym f ∙ e) in
        let bit : bit_of_variable row (variable_of p) ≡ false = ap (bit_of_variable row) (sym u) ∙ sym g ∙ t in
        let new : variable_of p ≡ 0 → ⊥ = λ o. z (u ∙ o) in
        ap₂ (λ t r. piece_leaves (Ok t) r) (sym (rw (b, ne_eqb (variable_of p) 0 new)))
        (k ∙ ap (λ x. with_variable row x true) u ∙ sym (written_one true row p a new))
        ∙ try_passed highest row at closed p h (passes highest row (scan_at at closed) p a b (omega arith) (fresh row (variable_of p) bit))

-- ---- the exits of the function that writes a word's bit

module _ (row p : List ℕ) (signs : Bool) (w : Result Number ℕ) (e : w ≡ word_of p) where
  pub write_broken : (r : ℕ) → w ≡ Err r → row ≡ written (signs && not (is_negative p)) row p
  unfolding written
  write_broken r f = rw (no_number p r (sym f ∙ e))

  module _ (m : Number) (f : w ≡ Ok m) where
    pub write_zero : m.variable ≡ 0 → row ≡ written (signs && not (is_negative p)) row p
    write_zero z = sym (written_none (signs && not (is_negative p)) row p (sym (variable_is p m (sym f ∙ e)) ∙ z))

    pub write_one : (on : Bool) (s : List ℕ) → (m.variable ≡ 0 → ⊥) → on ≡ (signs && not m.negative) → s ≡ with_variable row m.variable on
        → s ≡ written (signs && not (is_negative p)) row p
    write_one on s z o k =
        let u : m.variable ≡ variable_of p = variable_is p m (sym f ∙ e) in
        k
        ∙ ap₂ (λ v b. with_variable row v b) u (o ∙ ap (λ n. signs && not n) (sign_is p m (sym f ∙ e)))
        ∙ sym (written_one (signs && not (is_negative p)) row p (is_number_lem p m (sym f ∙ e)) (λ q. z (u ∙ q)))

-- ---- the pieces of a line

-- behind a gap stands a piece up to where its word ends, and then the pieces behind that gap
pub gap_pieces : (line : List ℕ) (gap end : ℕ) → gap < length line → EndsAt line (gap + 1) end
    → pieces_behind space (drop gap line) ≡ take (end - (gap + 1)) (drop (gap + 1) line) ∷ pieces_behind space (drop end line)
unfolding pieces_behind
gap_pieces line gap end h e =
    let n : ℕ = length_until space (drop (gap + 1) line) in
    let size : end - (gap + 1) ≡ n = omega (arith, e.is) in
    ap (pieces_behind space) (drop-cons line gap 0 h ∙ ap (λ k. get_or line gap 0 ∷ drop k line) (sym (add-one gap)))
    ∙ pieces_cut space (drop (gap + 1) line)
    ∙ ap₂ (λ a b. a ∷ pieces_behind space b) (ap (λ k. take k (drop (gap + 1) line)) (sym size))
    (drop-drop n (gap + 1) line ∙ ap (λ k. drop k line) (sym e.is))

pub gap_length : (line : List ℕ) (gap end : ℕ) → EndsAt line (gap + 1) end → gap + suc (length (take (end - (gap + 1)) (drop (gap + 1) line))) ≡ end
gap_length line gap end e =
    omega (arith, length-take (end - (gap + 1)) (drop (gap + 1) line), length-drop (gap + 1) line, e.behind, e.within)

pub no_pieces : (line : List ℕ) (gap : ℕ) → length line ≤ gap → pieces_behind space (drop gap line) ≡ []
unfolding pieces_behind
no_pieces line gap h = rw (drop_of_length-le line h)

-- what a piece left, and its verdict
left_taken : (judged : Verdict) (k c : Bool) (m r s : List ℕ) → piece_leaves (Ok c) s ≡ piece_trial judged k m r → (judged ≡ Ok tt) × (c ≡ k) × (s ≡ m)
left_taken (Ok _) k c m r s e = (refl, (let f : ◌≡◌ {A = Result Bool Refusal} (Ok c) (Ok k) = ap (λ t. t.answer) e in cc), ap (λ t. t.row) e)
left_taken (Err why) k c m r s e = let f : ◌≡◌ {A = Result Bool Refusal} (Ok c) (Err why) = ap (λ t. t.answer) e in (cc, cc, cc)

left_refused : (judged : Verdict) (k : Bool) (why : Refusal) (m r s : List ℕ) → piece_leaves (Err why) s ≡ piece_trial judged k m r → (judged ≡ Err why) × (s ≡ r)
left_refused (Ok _) k why m r s e = let f : ◌≡◌ {A = Result Bool Refusal} (Err why) (Ok k) = ap (λ t. t.answer) e in (cc, cc)
left_refused (Err y) k why m r s e = ((let f : ◌≡◌ {A = Result Bool Refusal} (Err why) (Err y) = ap (λ t. t.answer) e in cc), ap (λ t. t.row) e)

module _ (highest : ℕ) (row : List ℕ) (gap : ℕ) (closed : Bool) (p : List ℕ) (ps : List (List ℕ)) where
  trial_taken : (c : Bool) (s : List ℕ) → piece_leaves (Ok c) s ≡ try_piece highest row (suc gap) closed p
      → trial highest row gap closed (p ∷ ps) ≡ trial highest s (gap + suc (length p)) c ps
  unfolding trial try_piece
  trial_taken c s e =
      let f = left_taken (piece_scan highest row (suc gap) closed p).verdict _ c (written true row p) row s e in
      rw (f.0, f.1, f.2)

  trial_refused : (why : Refusal) (s : List ℕ) → piece_leaves (Err why) s ≡ try_piece highest row (suc gap) closed p
      → trial highest row gap closed (p ∷ ps) ≡ trial_leaves (Err (record { why = why; gap = gap })) s
  unfolding trial try_piece
  trial_refused why s e =
      let f = left_refused (piece_scan highest row (suc gap) closed p).verdict _ why (written true row p) row s e in
      rw (f.0, f.1)

-- ---- the loop over the gaps: what is left of the line, tried from the row as it is now, comes to the trial of the whole

pub tried_start : (highest : ℕ) (row : List ℕ) (closed : Bool) (line : List ℕ)
    → trial highest row first_gap closed (pieces_behind space (drop first_gap line)) ≡ trial highest row first_gap closed (number_pieces line)
unfolding number_pieces
tried_start highest row closed line = refl

module _ (highest : ℕ) (row : List ℕ) (closed : Bool) (line : List ℕ) (gap : ℕ) (whole : Trial)
    (left : trial highest row gap closed (pieces_behind space (drop gap line)) ≡ whole) where
  pub tried_through : length line ≤ gap → trial_leaves (Ok closed) row ≡ whole
  unfolding trial
  tried_through h = sym (ap (trial highest row gap closed) (no_pieces line gap h)) ∙ left

  module _ (end : ℕ) (r : Result Bool Refusal) (s : List ℕ) (h : gap < length line) (e : EndsAt line (gap + 1) end)
      (t : piece_leaves r s ≡ try_piece highest row (gap + 1) closed (take (end - (gap + 1)) (drop (gap + 1) line))) where
    piece : piece_leaves r s ≡ try_piece highest row (suc gap) closed (take (end - (gap + 1)) (drop (gap + 1) line))
    piece = t ∙ ap (λ k. try_piece highest row k closed (take (end - (gap + 1)) (drop (gap + 1) line))) (add-one gap)

    pub tried_stopped : (why : Refusal) → r ≡ Err why → trial_leaves (Err (record { why = why; gap = gap })) s ≡ whole
    tried_stopped why f =
        sym (trial_refused highest row gap closed (take (end - (gap + 1)) (drop (gap + 1) line)) (pieces_behind space (drop end line)) why s
        (ap (λ r. piece_leaves r s) (sym f) ∙ piece))
        ∙ ap (trial highest row gap closed) (sym (gap_pieces line gap end h e))
        ∙ left

    pub tried_on : (c : Bool) → r ≡ Ok c → trial highest s end c (pieces_behind space (drop end line)) ≡ whole
    tried_on c f =
        ap (λ k. trial highest s k c (pieces_behind space (drop end line))) (sym (gap_length line gap end e))
        ∙ sym (trial_taken highest row gap closed (take (end - (gap + 1)) (drop (gap + 1) line)) (pieces_behind space (drop end line)) c s
        (ap (λ r. piece_leaves r s) (sym f) ∙ piece))
        ∙ ap (trial highest row gap closed) (sym (gap_pieces line gap end h e))
        ∙ left

-- ---- the loop that writes the numbers before a gap once more

pub rewritten_next : (signs : Bool) (stop : ℕ) (row : List ℕ) (gap : ℕ) (p : List ℕ) (ps : List (List ℕ)) → gap < stop
    → rewritten signs stop row gap (p ∷ ps) ≡ rewritten signs stop (written (signs && not (is_negative p)) row p) (gap + suc (length p)) ps
unfolding rewritten
rewritten_next signs stop row gap p ps h = rw (lt-ltb gap stop h)

pub rewritten_all : (signs : Bool) (stop : ℕ) (row : List ℕ) (gap : ℕ) (ps : List (List ℕ)) → stop ≤ gap → rewritten signs stop row gap ps ≡ row
unfolding rewritten
rewritten_all signs stop row gap [] h = refl
rewritten_all signs stop row gap (p ∷ ps) h = rw (le-ltb gap stop h) (rewritten_all signs stop row (gap + suc (length p)) ps (omega arith))

pub writes_start : (signs : Bool) (stop : ℕ) (row line : List ℕ)
    → rewritten signs stop row first_gap (pieces_behind space (drop first_gap line)) ≡ rewritten signs stop row first_gap (number_pieces line)
unfolding number_pieces
writes_start signs stop row line = refl

module _ (signs : Bool) (stop : ℕ) (row line : List ℕ) (gap : ℕ) (whole : List ℕ)
    (left : rewritten signs stop row gap (pieces_behind space (drop gap line)) ≡ whole) where
  pub writes_done : stop ≤ gap → row ≡ whole
  writes_done h = sym (rewritten_all signs stop row gap (pieces_behind space (drop gap line)) h) ∙ left

  pub writes_on : (end : ℕ) (s : List ℕ) → gap < stop → stop ≤ length line → EndsAt line (gap + 1) end
      → s ≡ written (signs && not (is_negative (take (end - (gap + 1)) (drop (gap + 1) line)))) row (take (end - (gap + 1)) (drop (gap + 1) line))
      → rewritten signs stop s end (pieces_behind space (drop end line)) ≡ whole
  writes_on end s h l e w =
      ap₂ (λ s k. rewritten signs stop s k (pieces_behind space (drop end line))) w (sym (gap_length line gap end e))
      ∙ sym (rewritten_next signs stop row gap (take (end - (gap + 1)) (drop (gap + 1) line)) (pieces_behind space (drop end line)) h)
      ∙ ap (rewritten signs stop row gap) (sym (gap_pieces line gap end (omega arith) e))
      ∙ left
