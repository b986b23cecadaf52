-- Demands 2 and 3 over the calls, for an accepted file and a horizon from 0 to 64 with room enough lent: what each call accepts, what it writes, and
-- that the end of a reading and the way back lead from a model to its completion and from a schedule to itself.
-- Assumes nothing.
use Rattle.std.specs.Prelude.{Ok}
use mathlib.Core.Path.{◌≡◌, sym, ap, ◌∙◌}
use mathlib.Core.Logic.{◌↔◌}
use mathlib.Core.Bool.{Bool, true}
use mathlib.Core.List.{List, [], ◌∷◌, ◌++◌}
use Prim.Native.Nat.{ℕ, ◌≤◌, ◌<◌}
use native.Mathlib.Omega.{arith}
use borrow.Author.Tests.{le-leb, lt-ltb}
use lib.ListN.{length, take, drop, replicate, length-append, length-replicate, get_or-append}
use lib.Seq.{take_at}
use Rattle.rules.specs.Limits.{max_horizon}
use Rattle.rules.specs.Answers.{Rule, judge}
use Rattle.rules.specs.Task.{Task}
use Rattle.rules.specs.File.{file_rules, file_verdict, task_of}
use Rattle.rules.specs.Problem.{Problem}
use Rattle.rules.specs.Numbering.{N}
use Rattle.rules.specs.Families.{C, clause}
use Rattle.rules.specs.Text.{clause_line, header_line}
use Rattle.rules.specs.Rows.{Rows, words_for, packed, over_row}
use Rattle.rules.specs.Truth.{model_in, completion}
use Rattle.rules.specs.Walk.{CarriedOut, entry, schedule_rules}
use Rattle.rules.specs.Readings.{schedule_of, assignment_of, rows_holding, rows_of}
use Rattle.rules.specs.Lines.{rows_fit}
use Rattle.rules.specs.Output.{outcome}
use Rattle.rules.specs.Calls.{problem_of, problem_rules, clause_rules, room_rule, lent_rules, lent_after, rows_after, clause_verdict, header_verdict, clause_line_verdict, end_verdict, end_entries, back_verdict, back_rows}
use Rattle.rules.specs.declared.Phase.{Phase}
use Rattle.rules.specs.declared.Phase.TheVariants.{ModelClosed}
use Rattle.rules.proofs.Bools.{and_both}
use Rattle.rules.proofs.Judging.{judge_nil, judge_cons, judge_append, in_turn-right, in_turn-both}
use Rattle.rules.proofs.Bits.{length-packed}
use Rattle.rules.proofs.Valid.{WellFormed}
use Rattle.rules.proofs.Files.{accepted_well_formed}
use Rattle.rules.proofs.Endings.{ModelHolds, accepted_holds, holds_accepted}
use Rattle.rules.proofs.Schedules.{carried_out, out_carried, length-schedule, length-assignment, carried_ext, assignment_entries}
use Rattle.rules.proofs.Completed.{model_good}
use Rattle.rules.proofs.InRows.{rows_back, schedule_rows, schedule_again}

module _ (file : List ℕ) (k : ℕ) where
  abbrev P : Problem
  P = problem_of file k

  -- Demand 2
  pub record CallsAnswer : Type 0 where
    pub literals : (c room : ℕ) → c < C P → length (clause P c) ≤ room → clause_verdict file k c room ≡ Ok tt
    pub header : (room : ℕ) → length (header_line P) ≤ room → header_verdict file k room ≡ Ok tt
    pub line : (c room : ℕ) → c < C P → length (clause_line (clause P c)) ≤ room → clause_line_verdict file k c room ≡ Ok tt
    pub model : (phase : Phase) (rows : Rows) (entries : List ℕ) → rows_fit (N P) rows ≡ true → k ≤ length entries
        → (end_verdict file k phase rows entries ≡ Ok tt) ↔ ModelHolds P phase rows
    pub becomes_schedule : (phase : Phase) (rows : Rows) (entries : List ℕ) → end_verdict file k phase rows entries ≡ Ok tt
        → end_entries file k phase rows entries ≡ schedule_of P (model_in rows) ++ drop k entries
    pub schedule : (entries : List ℕ) (rows : Rows) → rows_fit (N P) rows ≡ true → k ≤ length entries
        → (back_verdict file k entries rows ≡ Ok tt) ↔ CarriedOut (task_of file) k entries
    pub becomes_model : (entries : List ℕ) (rows : Rows) → back_verdict file k entries rows ≡ Ok tt → back_rows file k entries rows ≡ rows_of P entries rows

  -- Demand 3: the way back of what the end wrote is the completion of the model that it read, and the end of what the way back wrote is its schedule
  pub record CallsPair : Type 0 where
    pub end_then_back : (phase : Phase) (rows lent : Rows) (entries : List ℕ) → rows_fit (N P) lent ≡ true
        → end_verdict file k phase rows entries ≡ Ok tt
        → (back_verdict file k (end_entries file k phase rows entries) lent ≡ Ok tt)
        × (back_rows file k (end_entries file k phase rows entries) lent ≡ rows_holding P (completion P (model_in rows)) lent)
    pub back_then_end : (rows : Rows) (entries lent : List ℕ) → k ≤ length lent → k ≤ length entries
        → back_verdict file k entries rows ≡ Ok tt
        → (end_verdict file k ModelClosed (back_rows file k entries rows) lent ≡ Ok tt)
        × (take k (end_entries file k ModelClosed (back_rows file k entries rows) lent) ≡ take k entries)

-- ---- the proofs

-- all that is judged before room, in an accepted file's calls
module _ (file : List ℕ) (fine : file_verdict file ≡ Ok tt) (k : ℕ) (small : k ≤ max_horizon) where
  abbrev T : Task
  T = task_of file

  pub within : judge (problem_rules file k) ≡ Ok tt
  unfolding problem_rules file_verdict
  within = judge_append (file_rules file) _ ∙ in_turn-both _ _ fine (judge_cons _ _ (le-leb _ _ small) judge_nil)

  -- one more rule behind those
  and_then : (r : Rule) → r.holds ≡ true → judge (problem_rules file k ++ (r ∷ [])) ≡ Ok tt
  and_then r h = judge_append (problem_rules file k) _ ∙ in_turn-both _ _ within (judge_cons _ _ h judge_nil)

  clause_there : (c : ℕ) → c < C (P file k) → judge (clause_rules file k c) ≡ Ok tt
  unfolding clause_rules
  clause_there c h = and_then _ (lt-ltb _ _ h)

  with_room : (rules : List Rule) (needed room : ℕ) → judge rules ≡ Ok tt → needed ≤ room → judge (rules ++ room_rule needed room) ≡ Ok tt
  with_room rules needed room h l = judge_append rules _ ∙ in_turn-both _ _ h (judge_cons _ _ (le-leb _ _ l) judge_nil)

  pub lent_enough : (rows : Rows) (entries : List ℕ) → rows_fit (N (P file k)) rows ≡ true → k ≤ length entries
      → judge (lent_rules file k rows entries) ≡ Ok tt
  lent_enough rows entries f l = and_then _ (and_both _ _ f (le-leb _ _ l))

  end_outcome : (phase : Phase) (rows : Rows) (entries : List ℕ) → end_verdict file k phase rows entries ≡ Ok tt → outcome (P file k) phase rows ≡ Ok tt
  unfolding end_verdict
  end_outcome phase rows entries h = in_turn-right (judge (lent_rules file k rows entries)) _ h

  end_accepted : (phase : Phase) (rows : Rows) (entries : List ℕ) → rows_fit (N (P file k)) rows ≡ true → k ≤ length entries
      → ModelHolds (P file k) phase rows → end_verdict file k phase rows entries ≡ Ok tt
  unfolding end_verdict
  end_accepted phase rows entries f l m = in_turn-both _ _ (lent_enough rows entries f l) (holds_accepted (P file k) rows phase m)

  back_carried : (entries : List ℕ) (rows : Rows) → back_verdict file k entries rows ≡ Ok tt → CarriedOut T k entries
  unfolding back_verdict
  back_carried entries rows h =
      carried_out T k entries
      (in_turn-right (judge (lent_rules file k rows entries)) _ (sym (judge_append (lent_rules file k rows entries) (schedule_rules T k entries)) ∙ h))

  back_accepted : (entries : List ℕ) (rows : Rows) → rows_fit (N (P file k)) rows ≡ true → k ≤ length entries → CarriedOut T k entries
      → back_verdict file k entries rows ≡ Ok tt
  unfolding back_verdict
  back_accepted entries rows f l c =
      judge_append (lent_rules file k rows entries) (schedule_rules T k entries) ∙ in_turn-both _ _ (lent_enough rows entries f l) (out_carried T k entries c)

  pub calls_answer : CallsAnswer file k
  unfolding clause_verdict header_verdict clause_line_verdict end_entries back_rows problem_of
  calls_answer =
      record {
        literals = λ c room h l. with_room (clause_rules file k c) _ room (clause_there c h) l;
        header = λ room l. with_room (problem_rules file k) _ room within l;
        line = λ c room h l. with_room (clause_rules file k c) _ room (clause_there c h) l;
        model = λ phase rows entries f l.
            (λ h. accepted_holds (P file k) rows phase (end_outcome phase rows entries h), λ m. end_accepted phase rows entries f l m);
        becomes_schedule = λ phase rows entries h.
            ap (λ v. lent_after v (schedule_of (P file k) (model_in rows)) entries) h
            ∙ ap (λ m. schedule_of (P file k) (model_in rows) ++ drop m entries) (length-schedule T k (model_in rows));
        schedule = λ entries rows f l. (λ h. back_carried entries rows h, λ c. back_accepted entries rows f l c);
        becomes_model = λ entries rows h. ap (λ v. rows_after v (rows_of (P file k) entries rows) rows) h;
      }

  -- what the end writes begins with the schedule
  written_entry : (rows : Rows) (entries : List ℕ) (s : ℕ) → s < k
      → entry (schedule_of (P file k) (model_in rows)) s ≡ entry (schedule_of (P file k) (model_in rows) ++ drop k entries) s
  unfolding problem_of
  written_entry rows entries s l =
      sym (get_or-append (schedule_of (P file k) (model_in rows)) (drop k entries) 0 s (omega (arith, length-schedule T k (model_in rows))))

  -- rows that were written are long enough
  rows_written_fit : (entries : List ℕ) (rows : Rows) → rows_fit (N (P file k)) (rows_of (P file k) entries rows) ≡ true
  unfolding rows_fit rows_of over_row problem_of
  rows_written_fit entries rows =
      and_both _ _
      (le-leb _ _ (long (replicate (N (P file k)) true) rows.given (length-replicate (N (P file k)) true)))
      (le-leb _ _ (long (assignment_of (P file k) entries) rows.is_true (length-assignment T k entries)))
    where
      long : (bits : List Bool) (row : List ℕ) → length bits ≡ N (P file k) → words_for (N (P file k)) ≤ length (over_row (packed bits) row)
      long bits row e =
          rw (← e)
          (omega (arith, length-append (packed bits) (drop (length (packed bits)) row), length-packed bits))

  pub calls_pair : CallsPair file k
  unfolding problem_of rows_of
  calls_pair =
      let well : WellFormed T = accepted_well_formed file fine in
      record {
        end_then_back = λ phase rows lent entries f h.
            let m = accepted_holds (P file k) rows phase (end_outcome phase rows entries h) in
            let written = schedule_of (P file k) (model_in rows) ++ drop k entries in
            let is : end_entries file k phase rows entries ≡ written = calls_answer.becomes_schedule phase rows entries h in
            let long : k ≤ length written =
            omega (arith, length-append (schedule_of (P file k) (model_in rows)) (drop k entries), length-schedule T k (model_in rows)) in
            let c : CarriedOut T k written =
            carried_ext T k (schedule_of (P file k) (model_in rows)) written (written_entry rows entries) (model_good T well k (model_in rows) m.all_true) in
            let accepted : back_verdict file k written lent ≡ Ok tt = back_accepted written lent f long c in
            rw is (
              accepted,
              calls_answer.becomes_model written lent accepted
                  ∙ ap (λ bits. rows_holding (P file k) bits lent) (sym (assignment_entries T k _ written (written_entry rows entries)))
                  ∙ rows_back T well k rows lent m.all_true,
            );
        back_then_end = λ rows entries lent l size h.
            let c : CarriedOut T k entries = back_carried entries rows h in
            let is : back_rows file k entries rows ≡ rows_of (P file k) entries rows = calls_answer.becomes_model entries rows h in
            let accepted : end_verdict file k ModelClosed (rows_of (P file k) entries rows) lent ≡ Ok tt =
            end_accepted ModelClosed (rows_of (P file k) entries rows) lent (rows_written_fit entries rows) l (schedule_rows T well k entries rows c) in
            rw is (
              accepted,
              ap (take k) (calls_answer.becomes_schedule ModelClosed (rows_of (P file k) entries rows) lent accepted)
                  ∙ take_at (schedule_of (P file k) (model_in (rows_of (P file k) entries rows))) (drop k lent) k (length-schedule T k _)
                  ∙ schedule_again T well k entries rows size c,
            );
      }
