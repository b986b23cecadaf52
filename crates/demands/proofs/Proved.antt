-- Demands 2 and 3 over the functions' own answers hold, for every accepted file and every horizon from 0 to 64.
-- Assumes nothing.
use Rattle.std.specs.Prelude.{Ok}
use mathlib.Core.Path.{◌≡◌, refl, sym, ap, ◌∙◌}
use mathlib.Core.Bool.{true}
use mathlib.Core.List.{List, [], ◌∷◌, ◌++◌, map}
use Prim.Native.Nat.{ℕ, ◌+◌, ◌-◌, ◌*◌, ◌≤◌}
use native.Mathlib.Omega.{arith}
use borrow.Author.Tests.{le-leb}
use lib.IntN.{ℤ}
use lib.ListN.{length, take, drop, replicate, length-replicate}
use lib.Seq.{take_at}
use Rattle.rules.specs.Limits.{max_horizon}
use Rattle.rules.specs.Counting.{joined}
use Rattle.rules.specs.Task.{Task, S, A}
use Rattle.rules.specs.File.{file_verdict, task_of}
use Rattle.rules.specs.Problem.{Problem}
use Rattle.rules.specs.Numbering.{N}
use Rattle.rules.specs.Families.{signed, family1, family2, family3, family4, family5, family6, family7, family8, formula, C}
use Rattle.rules.specs.Counts.{sum, count_table}
use Rattle.rules.specs.Rows.{Rows, words_for}
use Rattle.rules.specs.Truth.{model_in, completion}
use Rattle.rules.specs.Walk.{CarriedOut}
use Rattle.rules.specs.Readings.{schedule_of, assignment_of, rows_of}
use Rattle.rules.specs.Answers.{judge, in_turn, Verdict}
use Rattle.rules.specs.Lines.{rows_fit}
use Rattle.rules.specs.Output.{outcome}
use Rattle.rules.specs.Calls.{problem_of, problem_verdict, lent_rules, end_verdict, end_entries, back_verdict, back_rows}
use Rattle.rules.specs.declared.Phase.{Phase}
use Rattle.rules.specs.declared.Phase.TheVariants.{ModelClosed}
use Rattle.rules.proofs.Endings.{ModelHolds, accepted_holds, seventeen}
use Rattle.rules.proofs.Counts.{C-is}
use Rattle.rules.proofs.Bools.{and_both}
use Rattle.rules.proofs.Judging.{in_turn-right}
use Rattle.rules.proofs.Schedules.{length-schedule}
use Rattle.rules.proofs.Plans.{moves_of, moves_most, schedule_plan, padded, length-padded, plan_schedule}
use Rattle.rules.proofs.Completed.{completed_schedule, model_good, model_back}
use Rattle.rules.proofs.Proved as Rules
use Rattle.rules.proofs.Valid.{WellFormed}
use Rattle.rules.proofs.Files.{accepted_well_formed, accepted_valid}
use Rattle.rules.proofs.AtCalls.{CallsAnswer, CallsPair, within, lent_enough, calls_answer, calls_pair}
use Rattle.formula.specs.Said.{counts_answer, CountsAnswer, found, LiteralsAnswer}
use Rattle.formula.proofs.Demand.{Promised, the_formula, the_counts}
use Rattle.schedule.proofs.Answered.{accepts_exactly}
use Rattle.rules.proofs.Unnamed.{Unnamed, unnamed}
use Rattle.demands.proofs.Demands.{Counted, Spelled, Ended, WentBack, Demand2, Demand3}

-- ---- what the calls gave, by the definitions

counted_is : (file : List ℕ) (k : ℕ) (answer : CountsAnswer) → Counted file k answer → answer ≡ counts_answer file k
counted_is file k answer e = rw (← e.file_is, ← e.horizon_is) e.promised

spelled_is : (file : List ℕ) (k c : ℕ) (room : List ℤ) (answer : LiteralsAnswer) (after : List ℤ) → Spelled file k c room answer after
    → Promised file k c room answer after
spelled_is file k c room answer after e = rw (← e.file_is, ← e.horizon_is, ← e.number_is, ← e.room_is, ← e.after_is) e.promised

module _ (file : List ℕ) (k : ℕ) (phase : Phase) (rows : Rows) (entries : List ℕ) (verdict : Verdict) (after : List ℕ)
    (e : Ended file k phase rows entries verdict after) where
  ended_verdict : end_verdict file k phase rows entries ≡ verdict
  ended_verdict = rw (← e.file_is, ← e.horizon_is, ← e.phase_is, ← e.rows_are, ← e.entries_are) (sym e.promised.0)

  ended_entries : after ≡ end_entries file k phase rows entries
  ended_entries = rw (← e.file_is, ← e.horizon_is, ← e.phase_is, ← e.rows_are, ← e.entries_are) (sym e.after_is ∙ e.promised.1)

module _ (file : List ℕ) (k : ℕ) (entries : List ℕ) (rows : Rows) (verdict : Verdict) (after : Rows) (e : WentBack file k entries rows verdict after) where
  back_verdict_lem : back_verdict file k entries rows ≡ verdict
  back_verdict_lem = rw (← e.file_is, ← e.horizon_is, ← e.entries_are, ← e.rows_are) (sym e.promised.0)

  back_rows_lem : after ≡ back_rows file k entries rows
  back_rows_lem = rw (← e.file_is, ← e.horizon_is, ← e.entries_are, ← e.rows_are) (sym e.after_is ∙ e.promised.1)

-- ---- the demands

module _ (file : List ℕ) (fine : file_verdict file ≡ Ok tt) (k : ℕ) (small : k ≤ max_horizon) where
  abbrev T : Task
  T = task_of file

  abbrev P : Problem
  P = problem_of file k

  well : WellFormed T
  well = accepted_well_formed file fine

  answers : CallsAnswer file k
  answers = calls_answer file fine k small

  pair : CallsPair file k
  pair = calls_pair file fine k small

  stated : problem_verdict file k ≡ Ok tt
  unfolding problem_verdict
  stated = within file fine k small

  in_order : formula P
      ≡ joined (family1 P ∷ family2 P ∷ family3 P ∷ family4 P ∷ family5 P ∷ family6 P ∷ family7 P ∷ family8 P ∷ [])
  unfolding problem_of
  in_order = (Rules.demand2 T k).in_order

  true_counts : found (N P) (C P) ≡ found (k * (S T + A T) + S T) (sum (count_table T k))
  unfolding problem_of N
  true_counts = ap (found (N P)) (C-is T k)

  -- where enough is lent, a closed model's verdict is what its clauses say
  closed_verdict : (rows : Rows) (entries : List ℕ) → rows_fit (N P) rows ≡ true → k ≤ length entries
      → end_verdict file k ModelClosed rows entries ≡ outcome P ModelClosed rows
  unfolding end_verdict
  closed_verdict rows entries f l = ap (λ v. in_turn v (outcome P ModelClosed rows)) (lent_enough file fine k small rows entries f l)

  -- ---- an end that was accepted

  end_holds : (phase : Phase) (rows : Rows) (entries : List ℕ) → end_verdict file k phase rows entries ≡ Ok tt → ModelHolds P phase rows
  unfolding end_verdict
  end_holds phase rows entries h = accepted_holds P rows phase (in_turn-right (judge (lent_rules file k rows entries)) _ h)

  module _ (phase : Phase) (rows : Rows) (entries after : List ℕ) (e : Ended file k phase rows entries (Ok tt) after) where
    holds : ModelHolds P phase rows
    holds = end_holds phase rows entries (ended_verdict file k phase rows entries (Ok tt) after e)

    left : Unnamed T k (model_in rows)
    unfolding problem_of
    left = unnamed T (accepted_valid file fine) k (model_in rows) holds.all_true

    writes : after ≡ schedule_of P (model_in rows) ++ drop k entries
    writes =
        ended_entries file k phase rows entries (Ok tt) after e
        ∙ answers.becomes_schedule phase rows entries (ended_verdict file k phase rows entries (Ok tt) after e)

    size : length (schedule_of P (model_in rows)) ≡ k
    unfolding problem_of
    size = length-schedule T k (model_in rows)

    writes_first : take k after ≡ schedule_of P (model_in rows)
    writes_first = ap (take k) writes ∙ take_at (schedule_of P (model_in rows)) (drop k entries) k size

    good : CarriedOut T k (schedule_of P (model_in rows))
    unfolding problem_of
    good = model_good T well k (model_in rows) holds.all_true

    -- the completion is the assignment of that schedule
    stated_back : assignment_of P (schedule_of P (model_in rows)) ≡ completion P (model_in rows)
    unfolding problem_of
    stated_back = model_back T well k (model_in rows) holds.all_true

  -- ---- a way back that was accepted

  module _ (entries : List ℕ) (rows after : Rows) (e : WentBack file k entries rows (Ok tt) after) where
    model_written : after ≡ rows_of P entries rows
    model_written =
        back_rows_lem file k entries rows (Ok tt) after e ∙ answers.becomes_model entries rows (back_verdict_lem file k entries rows (Ok tt) after e)

    enough_entries : k ≤ length entries
    enough_entries = rw (e.horizon_is, e.entries_are) at ((accepts_exactly e.κs e.a (Ok tt) e.x e.promised).0 refl).entries_there

  pub demand2 : Demand2 file k
  demand2 =
      record {
        families = λ room after answer enough e.
            the_formula file k stated room after answer enough (λ c h. spelled_is file k c (room c) (answer c) (after c) (e c h)) ∙ ap (map (map signed)) in_order;
        counted = λ answer e. counted_is file k answer e ∙ the_counts file k stated ∙ true_counts;
        model = λ rows entries after verdict e enough.
            let same = ended_verdict file k ModelClosed rows entries verdict after e in
            let exactly = answers.model ModelClosed rows entries enough.rows_there enough.entries_fit in
            (λ h. (exactly.0 (same ∙ h)).all_true, λ t. sym same ∙ exactly.1 (record { closed = refl; all_true = t }));
        refused = λ rows entries after verdict c e enough.
            let same = sym (ended_verdict file k ModelClosed rows entries verdict after e) ∙ closed_verdict rows entries enough.rows_there enough.entries_fit in
            (λ h. (seventeen P rows c).0 (sym same ∙ h), λ l. same ∙ (seventeen P rows c).1 l);
        nothing_else = holds;
        left_unnamed = λ phase rows entries after e. left phase rows entries after e;
        becomes_schedule = λ phase rows entries after e.
            writes phase rows entries after e ∙ ap (λ schedule. schedule ++ drop k entries) (completed_schedule P (model_in rows));
        schedule = λ entries rows after verdict e enough.
            let same = back_verdict_lem file k entries rows verdict after e in
            let exactly = answers.schedule entries rows enough.rows_there enough.entries_fit in
            (λ h. exactly.0 (same ∙ h), λ c. sym same ∙ exactly.1 c);
        becomes_model = model_written;
      }

  -- ---- a plan of at most k moves

  -- rows with the words that are needed
  abbrev blank : Rows
  blank = record { given = replicate (words_for (N P)) 0; is_true = replicate (words_for (N P)) 0 }

  blank_fits : rows_fit (N P) blank ≡ true
  unfolding rows_fit
  blank_fits =
      let fits = le-leb (words_for (N P)) (length (replicate {A = ℕ} (words_for (N P)) 0)) (omega (arith, length-replicate {A = ℕ} (words_for (N P)) 0)) in
      and_both _ _ fits fits

  pub demand3 : Demand3 file k
  demand3 =
      record {
        end_then_back = λ phase rows before after entries written verdict e b fit.
            let back = pair.end_then_back phase rows before entries fit (ended_verdict file k phase rows entries (Ok tt) written e) in
            let is : written ≡ end_entries file k phase rows entries = ended_entries file k phase rows entries (Ok tt) written e in
            let accepted : verdict ≡ Ok tt = sym (back_verdict_lem file k written before verdict after b) ∙ ap (λ w. back_verdict file k w before) is ∙ back.0 in
            (accepted, back_rows_lem file k written before verdict after b ∙ ap (λ w. back_rows file k w before) is ∙ back.1);
        back_then_end = λ entries lent after rows written verdict b e l.
            let end = pair.back_then_end rows entries lent l (enough_entries entries rows written b) (back_verdict_lem file k entries rows (Ok tt) written b) in
            let is : written ≡ back_rows file k entries rows = back_rows_lem file k entries rows (Ok tt) written b in (
              sym (ended_verdict file k ModelClosed written lent verdict after e) ∙ ap (λ r. end_verdict file k ModelClosed r lent) is ∙ end.0,
              ap (take k) (ended_entries file k ModelClosed written lent verdict after e ∙ ap (λ r. end_entries file k ModelClosed r lent) is) ∙ end.1,
            );
        no_two = λ phase phase' rows rows' entries entries' after after' e e' same.
            let s : schedule_of P (model_in rows) ≡ schedule_of P (model_in rows') =
            sym (writes_first phase rows entries after e) ∙ same ∙ writes_first phase' rows' entries' after' e' in
            sym (stated_back phase rows entries after e) ∙ ap (assignment_of P) s ∙ stated_back phase' rows' entries' after' e';
        plan_of_model = λ phase rows entries after e.
            let schedule = schedule_of P (model_in rows) in
            let long = size phase rows entries after e in
            (moves_of T schedule, omega (arith, moves_most T schedule), schedule_plan T k schedule long (good phase rows entries after e));
        model_of_plan = λ moves l p.
            let schedule = padded T moves (k - length moves) in
            let size : k ≤ length schedule = omega (arith, length-padded T k moves l) in
            let back = (answers.schedule schedule blank blank_fits size).1 (plan_schedule T k moves l p) in
            let rows = back_rows file k schedule blank in
            let accepted : (entries : List ℕ) → k ≤ length entries → end_verdict file k ModelClosed rows entries ≡ Ok tt =
            λ entries enough. (pair.back_then_end blank schedule entries enough size back).0 in (
              rows,
              end_holds ModelClosed rows schedule (accepted schedule size),
              λ entries after verdict e enough. sym (ended_verdict file k ModelClosed rows entries verdict after e) ∙ accepted entries enough,
            );
      }
