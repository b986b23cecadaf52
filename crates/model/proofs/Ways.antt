-- The functions of the program, way by way.
-- Assumes nothing.
use Rattle.std.specs.Prelude.{Ok, Err}
use mathlib.Core.Path.{◌≡◌, refl, sym, ap, ◌∙◌}
use mathlib.Core.Logic.{⊎_elim}
use mathlib.Core.List.{List, [], ◌∷◌, ◌++◌}
use Prim.Native.Nat.{ℕ, ◌+◌, ◌-◌, ◌*◌, ◌≤◌, min}
use native.Mathlib.Omega.{arith}
use borrow.Author.Tests.{leb-true}
use mathlib.Core.Bool.{◌&&◌}
use lib.Dec.{leb}
use lib.ListN.{length, take, drop, replicate, length-take, length-drop, drop_of_length-le}
use lib.Seq.{take_all, take-append_seam, length-take-le}
use Rattle.rules.specs.Answers.{demand, judge, in_turn, Verdict, LineAnswer}
use Rattle.rules.specs.Limits.{max_horizon, max_n}
use Rattle.rules.specs.File.{byte, word16, task_of, file_rules, file_verdict}
use Rattle.rules.specs.Text.{refusal_line}
use Rattle.rules.specs.Numbering.{N}
use Rattle.rules.specs.Rows.{Rows, words_for}
use Rattle.rules.specs.Truth.{Model, model_in}
use Rattle.rules.specs.Readings.{schedule_of}
use Rattle.rules.specs.Lines.{rows_fit}
use Rattle.rules.specs.Output.{outcome}
use Rattle.rules.specs.Calls.{problem_of, problem_rules, problem_verdict, lent_after, start_reading, end_verdict, end_entries}
use Rattle.rules.specs.Programs.{printed, schedule_text}
use Rattle.rules.specs.declared.Refusal.{Refusal}
use Rattle.rules.specs.declared.Refusal.TheVariants.{Horizon, Room}
use Rattle.rules.specs.declared.Phase.{Phase}
use Rattle.rules.specs.declared.Reading.{Reading}
use Rattle.rules.proofs.Bools.{below_or, and_right}
use Rattle.rules.proofs.Counting.{length-table}
use Rattle.rules.proofs.Figures.{figures}
use Rattle.rules.proofs.Files.{accepted_valid}
use Rattle.rules.proofs.Judging.{judge_head, judge_append, in_turn-left, in_turn-right}
use Rattle.formula.specs.declared.calls.FormulaCounts.{FormulaCounts}
use Rattle.formula.specs.Said.{counts_by, counts_answer, CountsAnswer}
use Rattle.formula.proofs.Answered.{variables_in}
use Rattle.rows.specs.Lent.{lent}
use Rattle.output.specs.Line.{leaves}
use Rattle.output.specs.declared.feeding.Feed.{Feed}
use Rattle.output.specs.Feeding.{Fed, feed_leaves, feed_call, finish_call}
use Rattle.digits.specs.Over.{over}
use Rattle.printing.specs.Printed.{ended_room}
use Rattle.model.specs.Parts.{head_bytes, most_words, text_room, file_in, lines_in, words_needed, begun, end_text, text_after, last_text}

-- ---- the first part

take-least : (m : ℕ) (l : List ℕ) → take (min m (length l)) l ≡ take m l
take-least m l =
    ⊎_elim (λ h. let e : min m (length l) ≡ m = omega arith in rw e)
    (λ h. take_all (min m (length l)) l (omega arith) ∙ sym (take_all m l h))
    (below_or m (length l))

module _ (first : List ℕ) (end : ℕ) (e : end ≡ min (head_bytes + word16 first 1) (length first)) where
  pub file_is : (start : ℕ) → start ≡ min head_bytes end → take (end - start) (drop start first) ≡ file_in first
  unfolding file_in
  file_is start f =
      ⊎_elim
      (λ h.
      let nothing : end - start ≡ 0 = omega arith in
      rw (nothing, drop_of_length-le first {i = head_bytes} (omega arith)) (sym (take_all (word16 first 1) [] (omega arith))))
      (λ h.
      let here : start ≡ head_bytes = omega arith in
      let much : end - start ≡ min (word16 first 1) (length (drop head_bytes first)) = omega (arith, length-drop head_bytes first) in
      rw (much, here) (take-least (word16 first 1) (drop head_bytes first)))
      (below_or (length first) head_bytes)

  pub lines_are : take (length first - end) (drop end first) ≡ lines_in first
  unfolding lines_in
  lines_are =
      take_all (length first - end) (drop end first) (omega (arith, length-drop end first))
      ∙ ⊎_elim (λ h. let here : end ≡ head_bytes + word16 first 1 = omega arith in rw here)
      (λ h. rw (drop_of_length-le first {i = end} (omega arith), drop_of_length-le first {i = head_bytes + word16 first 1} h))
      (below_or (head_bytes + word16 first 1) (length first))

-- ---- refusals 1 to 8

module _ (file : List ℕ) (k : ℕ) (e : problem_verdict file k ≡ Ok tt) where
  both : in_turn (file_verdict file) (judge (demand (leb k max_horizon) Horizon ∷ [])) ≡ Ok tt
  unfolding problem_verdict problem_rules file_verdict
  both = sym (judge_append (file_rules file) _) ∙ e

  accepted_file : file_verdict file ≡ Ok tt
  accepted_file = in_turn-left _ _ both

  pub accepted_horizon : k ≤ max_horizon
  accepted_horizon = leb-true _ _ (judge_head _ [] (in_turn-right (file_verdict file) _ both))

-- ---- the words needed

module _ (first file : List ℕ) (k : ℕ) (a : CountsAnswer) (f : file ≡ file_in first) (e : k ≡ byte first 0) (c : a ≡ counts_answer file k) where
  by_counts : a ≡ counts_by (problem_verdict (file_in first) (byte first 0)) (problem_of (file_in first) (byte first 0))
  unfolding counts_answer
  by_counts = c ∙ rw (f, e)

  none_by : (v : Verdict) → problem_verdict (file_in first) (byte first 0) ≡ v → (why : Refusal) → counts_by v (problem_of (file_in first) (byte first 0)) ≡ Err why
      → 0 ≡ words_needed first
  unfolding words_needed
  none_by (Ok _) g why h = let z : ◌≡◌ {A = ℕ} 0 1 = cc in absurd (omega arith)
  none_by (Err w) g why h = rw g

  some_by : (v : Verdict) → problem_verdict (file_in first) (byte first 0) ≡ v → (found : FormulaCounts) → counts_by v (problem_of (file_in first) (byte first 0)) ≡ Ok found
      → (words_for found.variables ≡ words_needed first) × (found.variables ≤ max_n)
  unfolding words_needed problem_of
  some_by (Err w) g found h = let z : ◌≡◌ {A = ℕ} 0 1 = cc in absurd (omega arith)
  some_by (Ok _) g found h =
      let same : N (problem_of (file_in first) (byte first 0)) ≡ found.variables = ap variables_in h in
      (rw g (ap words_for (sym same)), rw (sym same) (figures (task_of (file_in first)) (accepted_valid (file_in first) (accepted_file (file_in first) (byte first 0) g)) (byte first 0) (accepted_horizon (file_in first) (byte first 0) g)).variables)

  pub no_words : (why : Refusal) → a ≡ Err why → 0 ≡ words_needed first
  no_words why g = none_by (problem_verdict (file_in first) (byte first 0)) refl why (sym by_counts ∙ g)

  module _ (found : FormulaCounts) (w : ℕ) (g : a ≡ Ok found) (h : w ≡ words_for found.variables) where
    pub the_words : w ≡ words_needed first
    the_words = h ∙ (some_by (problem_verdict (file_in first) (byte first 0)) refl found (sym by_counts ∙ g)).0

    pub words_few : w ≤ most_words
    words_few = omega (arith, (some_by (problem_verdict (file_in first) (byte first 0)) refl found (sym by_counts ∙ g)).1)

-- ---- the start

pub begun_so : (first file lines g t g' t' g'' t'' line line'' : List ℕ) (k : ℕ) (a : LineAnswer) (r : Feed)
    → feed_leaves r g'' t'' line'' ≡ feed_call (feed_leaves (record { answer = a; held = 0 }) g' t' line) lines → leaves a g' t' ≡ start_reading file k (lent g t)
    → file ≡ file_in first → k ≡ byte first 0 → lines ≡ lines_in first → feed_leaves r g'' t'' line'' ≡ begun first (lent g t) line
unfolding begun
begun_so first file lines g t g' t' g'' t'' line line'' k a r p s f e l =
    p ∙ ap (λ q. feed_call (record { progress = q; held = 0; line = line }) lines) s ∙ rw (f, e, l)

-- ---- the end

pub verdicts : (file : List ℕ) (k : ℕ) (phase : Phase) (rows : Rows) (entries : List ℕ)
    → end_verdict file k phase rows entries
    ≡ in_turn (in_turn (problem_verdict file k) (judge (demand (rows_fit (N (problem_of file k)) rows && leb k (length entries)) Room ∷ []))) (outcome (problem_of file k) phase rows)
unfolding end_verdict problem_verdict
verdicts file k phase rows entries = ap (λ v. in_turn v (outcome (problem_of file k) phase rows)) (judge_append (problem_rules file k) _)

module _ (file : List ℕ) (k : ℕ) (M : Model) where
  schedule_long : length (schedule_of (problem_of file k) M) ≡ k
  unfolding schedule_of problem_of
  schedule_long = length-table k _

  schedule_first : (rest : List ℕ) → take k (schedule_of (problem_of file k) M ++ rest) ≡ schedule_of (problem_of file k) M
  schedule_first rest =
      ap (λ m. take m (schedule_of (problem_of file k) M ++ rest)) (sym schedule_long) ∙ take-append_seam (schedule_of (problem_of file k) M) rest

module _ (file given is_true : List ℕ) (k : ℕ) (phase : Phase) (v : Verdict) (e : v ≡ end_verdict file k phase (lent given is_true) (replicate max_horizon 0)) where
  text_by : printed v (schedule_text (schedule_of (problem_of file k) (model_in (lent given is_true)))) ≡ end_text file k phase (lent given is_true)
  unfolding end_text
  text_by = ap (λ v. printed v (schedule_text (schedule_of (problem_of file k) (model_in (lent given is_true))))) e

  module _ (why : Refusal) (f : v ≡ Err why) where
    refused_text : refusal_line why ≡ end_text file k phase (lent given is_true)
    refused_text = ap (λ v. printed v (schedule_text (schedule_of (problem_of file k) (model_in (lent given is_true))))) (sym f) ∙ text_by

    pub end_refused : (room now : List ℕ) → now ≡ over room 0 (refusal_line why) → now ≡ over room 0 (end_text file k phase (lent given is_true))
    end_refused room now g = g ∙ ap (over room 0) refused_text

    pub end_refused_behind : (end : ℕ) → end ≡ length (refusal_line why) → end ≡ length (end_text file k phase (lent given is_true))
    end_refused_behind end g = g ∙ ap length refused_text

  module _ (f : v ≡ Ok tt) where
    horizon_low : k ≤ max_horizon
    horizon_low =
        let both = in_turn-left _ (outcome (problem_of file k) phase (lent given is_true)) (sym (verdicts file k phase (lent given is_true) (replicate max_horizon 0)) ∙ sym e ∙ f) in
        leb-true k max_horizon
        (and_right (rows_fit (N (problem_of file k)) (lent given is_true)) (leb k max_horizon) (judge_head _ [] (in_turn-right (problem_verdict file k) _ both)))

    module _ (after : List ℕ) where
      pub part_fits : (out : List ℕ) → text_room ≤ length out → ended_room * length (take k after) ≤ length out
      part_fits out h = omega (arith, length-take k after, horizon_low)

      module _ (h : after ≡ end_entries file k phase (lent given is_true) (replicate max_horizon 0)) where
        entries_are : take k after ≡ schedule_of (problem_of file k) (model_in (lent given is_true))
        unfolding end_entries
        entries_are =
            ap (take k) (h ∙ ap (λ v. lent_after v (schedule_of (problem_of file k) (model_in (lent given is_true))) (replicate max_horizon 0)) (sym e ∙ f))
            ∙ schedule_first file k (model_in (lent given is_true)) _

        pub part_length : k ≡ length (take k after)
        part_length = sym (ap length entries_are ∙ schedule_long file k (model_in (lent given is_true)))

        pub part_within : k ≤ length after
        part_within = omega (arith, part_length, length-take k after)

        accepted_text : schedule_text (take k after) ≡ end_text file k phase (lent given is_true)
        accepted_text =
            ap schedule_text entries_are ∙ ap (λ v. printed v (schedule_text (schedule_of (problem_of file k) (model_in (lent given is_true))))) (sym f) ∙ text_by

        pub end_accepted : (room now : List ℕ) → now ≡ over room 0 (schedule_text (take k after)) → now ≡ over room 0 (end_text file k phase (lent given is_true))
        end_accepted room now g = g ∙ ap (over room 0) accepted_text

        pub end_accepted_behind : (end : ℕ) → end ≡ length (schedule_text (take k after)) → end ≡ length (end_text file k phase (lent given is_true))
        end_accepted_behind end g = g ∙ ap length accepted_text

-- ---- the whole end

module _ (first g t : List ℕ) (fed : Fed) (a : LineAnswer) (e : leaves a g t ≡ finish_call fed) where
  answered : text_after first a (lent g t) ≡ last_text first (finish_call fed)
  unfolding last_text
  answered = ap (λ p. text_after first p.answer p.rows) e

  module _ (why : Refusal) (f : a ≡ Err why) where
    refused_last : refusal_line why ≡ last_text first (finish_call fed)
    refused_last = ap (λ a. text_after first a (lent g t)) (sym f) ∙ answered

    pub last_refused : (room now : List ℕ) → now ≡ over room 0 (refusal_line why) → now ≡ over room 0 (last_text first (finish_call fed))
    last_refused room now h = h ∙ ap (over room 0) refused_last

    pub last_refused_behind : (end : ℕ) → end ≡ length (refusal_line why) → end ≡ length (last_text first (finish_call fed))
    last_refused_behind end h = h ∙ ap length refused_last

  module _ (reading : Reading) (f : a ≡ Ok reading) (file : List ℕ) (k : ℕ) (i : file ≡ file_in first) (j : k ≡ byte first 0) where
    next_last : end_text file k reading.phase (lent g t) ≡ last_text first (finish_call fed)
    next_last = rw (i, j) (ap (λ a. text_after first a (lent g t)) (sym f)) ∙ answered

    pub last_next : (room now : List ℕ) → now ≡ over room 0 (end_text file k reading.phase (lent g t)) → now ≡ over room 0 (last_text first (finish_call fed))
    last_next room now h = h ∙ ap (over room 0) next_last

    pub last_next_behind : (end : ℕ) → end ≡ length (end_text file k reading.phase (lent g t)) → end ≡ length (last_text first (finish_call fed))
    last_next_behind end h = h ∙ ap length next_last

-- ---- in main

pub part_of : (n : ℕ) (l : List ℕ) → n ≤ length l → n ≡ length (take n l)
part_of n l h = sym (length-take-le n l h)

pub part_is : (n m : ℕ) (l : List ℕ) → n ≡ m → n ≤ length l → length (take n l) ≡ m
part_is n m l e h = length-take-le n l h ∙ e
