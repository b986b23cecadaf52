-- Laws of a whole line: each answer by the rule that decides it, and what both rows hold then.
-- Assumes nothing.
use mathlib.Core.Path.{◌≡◌, refl, sym, ap, ap₂, ◌∙◌}
use mathlib.Core.Bool.{Bool, true, false, cond, not, ◌||◌}
use mathlib.Core.List.{List, [], ◌∷◌}
use Prim.Native.Char.{code}
use Prim.Native.Nat.{ℕ, ◌≤◌, ◌<◌}
use Rattle.std.specs.Prelude.{Result, Ok, Err}
use native.Mathlib.Omega.{arith}
use borrow.Author.Tests.{ne_eqb, eqb-true, leb-true, le-leb, lt-leb}
use lib.Dec.{eqb, leb}
use lib.ListN.{length, replicate}
use Rattle.rules.specs.Limits.{max_line}
use Rattle.rules.specs.Answers.{demand, judge, in_turn, Verdict, LineAnswer}
use Rattle.rules.specs.File.{byte}
use Rattle.rules.specs.Text.{space}
use Rattle.rules.specs.Problem.{Problem}
use Rattle.rules.specs.Numbering.{N}
use Rattle.rules.specs.Rows.{words_for, over_row, Rows, store_all}
use Rattle.rules.specs.Lines.{scan_line, awaits_numbers, comment, status, numbers, neither, kind_of, kind_verdict, line_verdict, phase_said, phase_after, named, Progress, rows_fit, progress, read_line}
use Rattle.rules.specs.Output.{first_reading, cleared_rows}
use Rattle.rules.specs.declared.Refusal.{Refusal}
use Rattle.rules.specs.declared.Refusal.TheVariants.{Room, Grammar, OutOfPlace}
use Rattle.rules.specs.declared.Phase.{Phase}
use Rattle.rules.specs.declared.Phase.TheVariants.{NoStatus, ModelOpen, ModelClosed}
use Rattle.rules.specs.declared.Reading.{Reading}
use Rattle.rules.proofs.Bools.{and_left, and_right, not_true, not_false}
use Rattle.output.specs.Trial.{trial_leaves, stop_of, trial, first_gap, number_pieces, rewritten}
use Rattle.output.specs.Line.{lent, leaves, both_fit, started, by_kind, answer_to}
use Rattle.output.specs.declared.numbers.Stopped.{Stopped}
use Rattle.output.proofs.ScanLaws.{Agree, line_agrees, line_back}

-- ---- the kind of a line

third : (a b c : Bool) → cond a comment (cond b status (cond c numbers neither)) ≡ numbers → c ≡ true
third true b c e = cc
third false true c e = cc
third false false true e = refl
third false false false e = cc

kind_v : (line : List ℕ) → kind_of line ≡ numbers → byte line 0 ≡ code "v"
unfolding kind_of
kind_v line e = eqb-true (byte line 0) (code "v") (third (eqb (byte line 0) (code "c")) (eqb (byte line 0) (code "s")) (eqb (byte line 0) (code "v")) e)

module _ (line : List ℕ) (b : ℕ) (first : b ≡ byte line 0) where
  kind_c : b ≡ code "c" → kind_of line ≡ comment
  unfolding kind_of
  kind_c e = rw (sym first ∙ e)

  kind_s : b ≡ code "s" → kind_of line ≡ status
  unfolding kind_of
  kind_s e = rw (sym first ∙ e)

  pub kind_numbers : b ≡ code "v" → kind_of line ≡ numbers
  unfolding kind_of
  kind_numbers e = rw (sym first ∙ e)

  kind_other : (b ≡ code "c" → ⊥) → (b ≡ code "s" → ⊥) → (b ≡ code "v" → ⊥) → kind_of line ≡ neither
  unfolding kind_of
  kind_other c s v =
      rw (ne_eqb (byte line 0) (code "c") (λ e. c (first ∙ e)), ne_eqb (byte line 0) (code "s") (λ e. s (first ∙ e)), ne_eqb (byte line 0) (code "v") (λ e. v (first ∙ e)))

-- ---- a line of numbers

pub stop_within : (r : Result Bool Stopped) (stopped : Stopped) (n : ℕ) → r ≡ Err stopped → stop_of r ≤ n → stopped.gap ≤ n
stop_within r stopped n e h = rw e at h

module _ (reading : Reading) (g t line : List ℕ) (a : Bool) (awaits : a ≡ awaits_numbers reading.phase) where
  -- the verdicts before the scan
  numbers_verdict : kind_verdict numbers reading g line
      ≡ in_turn (judge (demand a (OutOfPlace 0) ∷ demand (eqb (length line) 1 || eqb (byte line 1) space) (Grammar 1) ∷ []))
      (scan_line reading.highest g line).verdict
  unfolding kind_verdict
  numbers_verdict =
      ap (λ a. in_turn (judge (demand a (OutOfPlace 0) ∷ demand (eqb (length line) 1 || eqb (byte line 1) space) (Grammar 1) ∷ [])) (scan_line reading.highest g line).verdict)
      (sym awaits)

  refused_by : (why : Refusal) → kind_verdict numbers reading g line ≡ Err why → leaves (Err why) g t ≡ by_kind numbers reading (lent g t) line
  unfolding by_kind
  refused_by why e = rw e

  pub numbers_out : not a ≡ true → leaves (Err (OutOfPlace 0)) g t ≡ by_kind numbers reading (lent g t) line
  unfolding judge
  numbers_out n = refused_by (OutOfPlace 0) (numbers_verdict ∙ rw (not_true a n) refl)

  module _ (n : not a ≡ false) (s : Bool) (alone : s ≡ (eqb (length line) 1 || eqb (byte line 1) space)) where
    pub numbers_apart : not s ≡ true → leaves (Err (Grammar 1)) g t ≡ by_kind numbers reading (lent g t) line
    unfolding judge
    numbers_apart m = refused_by (Grammar 1) (numbers_verdict ∙ rw (not_false a n, sym alone ∙ not_true s m) refl)

    module _ (m : not s ≡ false) (fit : words_for reading.highest ≤ length g) (kind : kind_of line ≡ numbers) (r : Result Bool Stopped) (g' : List ℕ)
        (tried : trial_leaves r g' ≡ trial reading.highest g first_gap false (number_pieces line)) where
      by_scan : kind_verdict numbers reading g line ≡ (scan_line reading.highest g line).verdict
      unfolding judge
      by_scan = numbers_verdict ∙ rw (not_false a n, sym alone ∙ not_false s m) refl

      agrees : Agree reading.highest (lent g t) fit r g' (rewritten true (length line) t first_gap (number_pieces line)) (scan_line reading.highest g line)
      agrees = rw (sym tried) at (line_agrees reading.highest (lent g t) line fit (kind_v line kind) (sym alone ∙ not_false s m))

      module _ (stopped : Stopped) (e : r ≡ Err stopped) where
        back_again : rewritten false stopped.gap g' first_gap (number_pieces line) ≡ g
        back_again =
            rw (sym tried) at (line_back reading.highest (lent g t) line fit (kind_v line kind) (sym alone ∙ not_false s m) stopped (ap (λ x. x.answer) (sym tried) ∙ e))

        pub numbers_stopped : (g'' : List ℕ) → g'' ≡ rewritten false stopped.gap g' first_gap (number_pieces line)
            → leaves (Err stopped.why) g'' t ≡ by_kind numbers reading (lent g t) line
        numbers_stopped g'' w =
            ap (λ x. leaves (Err stopped.why) x t) (w ∙ back_again)
            ∙ refused_by stopped.why (by_scan ∙ (rw e at agrees))

      passed_by : (c : Bool) → (scan_line reading.highest g line).verdict ≡ Ok tt → (scan_line reading.highest g line).closed ≡ c
          → ◌≡◌ {A = Progress} (record {
            answer = Ok (record { highest = reading.highest; phase = cond c ModelClosed ModelOpen });
            rows = store_all (lent g t) (scan_line reading.highest g line).named;
          }) (by_kind numbers reading (lent g t) line)
      unfolding by_kind phase_after named
      passed_by c v k = rw (by_scan, v, k)

      pub numbers_through : (c : Bool) (t' : List ℕ) (phase : Phase) → r ≡ Ok c → t' ≡ rewritten true (length line) t first_gap (number_pieces line)
          → phase ≡ cond c ModelClosed ModelOpen
          → leaves (Ok (record { highest = reading.highest; phase = phase })) g' t' ≡ by_kind numbers reading (lent g t) line
      numbers_through c t' phase e w p =
          let f : Agree reading.highest (lent g t) fit (Ok c) g' (rewritten true (length line) t first_gap (number_pieces line)) (scan_line reading.highest g line) =
          rw e at agrees in
          ap₂ (λ phase rows. record { answer = Ok (record { highest = reading.highest; phase = phase }); rows = rows }) p
          (ap (lent g') w ∙ f.2)
          ∙ passed_by c f.0 f.1

-- ---- a line that names nothing

nothing_named : (judged : Verdict) (next : Reading) (g t : List ℕ) → leaves (progress judged next [] (lent [] [])).answer g t ≡ progress judged next [] (lent g t)
unfolding store_all
nothing_named (Ok _) next g t = refl
nothing_named (Err why) next g t = refl

keeps_comment : (reading : Reading) (g t line : List ℕ) → leaves (answer_to comment reading line) g t ≡ by_kind comment reading (lent g t) line
unfolding answer_to by_kind kind_verdict phase_after named
keeps_comment reading g t line = nothing_named (kind_verdict comment reading [] line) reading g t

keeps_status : (reading : Reading) (g t line : List ℕ) → leaves (answer_to status reading line) g t ≡ by_kind status reading (lent g t) line
unfolding answer_to by_kind kind_verdict phase_after named
keeps_status reading g t line = nothing_named (kind_verdict status reading [] line) (record { highest = reading.highest; phase = phase_said line }) g t

-- ---- room for the rows

module _ (highest g t : ℕ) (r : Bool) (fit : r ≡ both_fit highest g t) (ok : not r ≡ false) where
  pub given_fits : words_for highest ≤ g
  unfolding both_fit
  given_fits = leb-true (words_for highest) g (and_left (leb (words_for highest) g) (leb (words_for highest) t) (sym fit ∙ not_false r ok))

  true_fits : words_for highest ≤ t
  unfolding both_fit
  true_fits = leb-true (words_for highest) t (and_right (leb (words_for highest) g) (leb (words_for highest) t) (sym fit ∙ not_false r ok))

  pub clear_given : (words : ℕ) → words ≡ words_for highest → words ≤ g
  clear_given words need = omega (arith, need, given_fits)

  pub clear_true : (words : ℕ) → words ≡ words_for highest → words ≤ t
  clear_true words need = omega (arith, need, true_fits)

-- ---- any line

module _ (reading : Reading) (g t line : List ℕ) where
  refuses : (why : Refusal) → in_turn (judge (demand (rows_fit reading.highest (lent g t)) Room ∷ [])) (line_verdict reading g line) ≡ Err why
      → leaves (Err why) g t ≡ read_line reading (lent g t) line
  unfolding read_line
  refuses why e = rw e

  module _ (r : Bool) (fit : r ≡ both_fit reading.highest (length g) (length t)) where
    pub line_room_lem : not r ≡ true → leaves (Err Room) g t ≡ read_line reading (lent g t) line
    unfolding judge rows_fit both_fit
    line_room_lem h = refuses Room (rw (sym fit ∙ not_true r h) refl)

    module _ (ok : not r ≡ false) where
      fits : rows_fit reading.highest (lent g t) ≡ true
      unfolding rows_fit both_fit
      fits = sym fit ∙ not_false r ok

      pub line_long : max_line < length line → leaves (Err (Grammar max_line)) g t ≡ read_line reading (lent g t) line
      unfolding judge line_verdict
      line_long h = refuses (Grammar max_line) (rw (fits, lt-leb (length line) max_line h) refl)

      module _ (short : length line ≤ max_line) where
        line_is : by_kind (kind_of line) reading (lent g t) line ≡ read_line reading (lent g t) line
        unfolding read_line by_kind judge line_verdict
        line_is = rw (fits, le-leb (length line) max_line short)

        module _ (b : ℕ) (first : b ≡ byte line 0) where
          pub line_comment : (r : LineAnswer) → b ≡ code "c" → r ≡ answer_to comment reading line → leaves r g t ≡ read_line reading (lent g t) line
          line_comment r e a =
              ap (λ r. leaves r g t) a ∙ keeps_comment reading g t line ∙ ap (λ k. by_kind k reading (lent g t) line) (sym (kind_c line b first e)) ∙ line_is

          pub line_status : (r : LineAnswer) → b ≡ code "s" → r ≡ answer_to status reading line → leaves r g t ≡ read_line reading (lent g t) line
          line_status r e a =
              ap (λ r. leaves r g t) a ∙ keeps_status reading g t line ∙ ap (λ k. by_kind k reading (lent g t) line) (sym (kind_s line b first e)) ∙ line_is

          pub line_numbers : (p : Progress) → b ≡ code "v" → p ≡ by_kind numbers reading (lent g t) line → p ≡ read_line reading (lent g t) line
          line_numbers p e a = a ∙ ap (λ k. by_kind k reading (lent g t) line) (sym (kind_numbers line b first e)) ∙ line_is

          pub line_neither : (b ≡ code "c" → ⊥) → (b ≡ code "s" → ⊥) → (b ≡ code "v" → ⊥)
              → leaves (Err (Grammar 0)) g t ≡ read_line reading (lent g t) line
          unfolding by_kind kind_verdict
          line_neither c s v =
              let n : leaves (Err (Grammar 0)) g t ≡ by_kind neither reading (lent g t) line = refl in
              n ∙ ap (λ k. by_kind k reading (lent g t) line) (sym (kind_other line b first c s v)) ∙ line_is

-- ---- the start

module _ (highest : ℕ) (g t : List ℕ) (r : Bool) (fit : r ≡ both_fit highest (length g) (length t)) where
  pub start_room : not r ≡ true → leaves (Err Room) g t ≡ started highest (lent g t)
  unfolding started rows_fit both_fit
  start_room h = rw (sym fit ∙ not_true r h)

  pub start_clears : (words : ℕ) (g' t' : List ℕ) → not r ≡ false → words ≡ words_for highest → g' ≡ over_row (replicate words 0) g → t' ≡ over_row (replicate words 0) t
      → leaves (Ok (record { highest = highest; phase = NoStatus })) g' t' ≡ started highest (lent g t)
  unfolding started rows_fit both_fit
  start_clears words g' t' h need e f =
      rw (sym fit ∙ not_false r h)
      (ap₂ (leaves (Ok (record { highest = highest; phase = NoStatus })))
      (e ∙ ap (λ n. over_row (replicate n 0) g) need)
      (f ∙ ap (λ n. over_row (replicate n 0) t) need))

-- with N of a problem it is the rules' own start
pub start_is : (P : Problem) (rows : Rows) → rows_fit (N P) rows ≡ true
    → ◌≡◌ {A = Progress} (started (N P) rows) (record { answer = Ok (first_reading P); rows = cleared_rows P rows })
unfolding started cleared_rows
start_is P rows h = rw h
