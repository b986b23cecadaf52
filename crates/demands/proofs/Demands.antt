-- Demands 2 and 3 over the functions' own answers: over any calls that kept their promises of `formula::calls::counts` and `literals`, of
-- `checker::end::finish`, the end of a reading, and of `schedule::way_back`. Proved.antt proves both, for every accepted file and every horizon from 0 to 64.
-- Assumes nothing.
use Rattle.std.specs.Prelude.{Ok, Err}
use mathlib.Core.Path.{◌≡◌}
use mathlib.Core.Logic.{◌↔◌}
use mathlib.Core.Bool.{true}
use mathlib.Core.List.{List, [], ◌∷◌, ◌++◌, map}
use Prim.Native.Nat.{ℕ, ◌+◌, ◌*◌, ◌≤◌, ◌<◌}
use lib.IntN.{ℤ}
use lib.ListN.{length, take, drop}
use borrow.Fn.Kinds.{Dens, ended_of}
use contract.Lifetimes.{Lfts}
use denote.Triple.Clauses.{AtExit}
use Rattle.rules.specs.Counting.{table, joined}
use Rattle.rules.specs.Task.{S, A}
use Rattle.rules.specs.File.{task_of}
use Rattle.rules.specs.Problem.{Problem}
use Rattle.rules.specs.Numbering.{N}
use Rattle.rules.specs.Families.{signed, family1, family2, family3, family4, family5, family6, family7, family8, formula, C, clause}
use Rattle.rules.specs.Counts.{sum, count_table}
use Rattle.rules.specs.Rows.{Rows}
use Rattle.rules.specs.Truth.{satisfies, model_in, assigned, completion}
use Rattle.rules.specs.Walk.{CarriedOut, is_plan}
use Rattle.rules.specs.Readings.{schedule_of, rows_holding, rows_of}
use Rattle.rules.specs.Lines.{rows_fit}
use Rattle.rules.specs.Calls.{problem_of}
use Rattle.rules.specs.Answers.{Verdict}
use Rattle.rules.specs.declared.Refusal.TheVariants.{UnmetClause}
use Rattle.rules.specs.declared.Phase.{Phase}
use Rattle.rules.specs.declared.Phase.TheVariants.{ModelClosed}
use Rattle.rules.proofs.Endings.{ModelHolds, LowestUnmet}
use Rattle.rules.proofs.Unnamed.{Unnamed}
use Rattle.formula.proofs.Demand.{words_of}
use Rattle.formula.proofs.calls.counts.Kinds as counts-kinds
use Rattle.formula.proofs.calls.counts.Reads as counts
use Rattle.formula.proofs.calls.literals.Kinds as literals-kinds
use Rattle.formula.proofs.calls.literals.Reads as literals
use Rattle.checker.specs.End.{lent}
use Rattle.checker.proofs.end.finish.Kinds as finish-kinds
use Rattle.checker.proofs.end.finish.Reads as finish
use Rattle.schedule.proofs.way_back.Kinds as back-kinds
use Rattle.schedule.proofs.way_back.Reads as way_back
use Rattle.formula.specs.Said.{CountsAnswer, LiteralsAnswer}

-- ---- the calls

-- N and C were asked of a file at a horizon, and this was the answer
pub record Counted (file : List ℕ) (k : ℕ) (answer : CountsAnswer) : Type 1 where
  pub κs : Lfts 1
  pub a : Dens κs counts-kinds.ps
  pub x : AtExit (ended_of 1 counts-kinds.ps counts-kinds.r) κs
  pub promised : counts.Post κs a answer x
  pub file_is : a.0.now ≡ file
  pub horizon_is : a.1.0 ≡ k

-- clause c was asked of a file at a horizon: the answer, and the words that it left
pub record Spelled (file : List ℕ) (k c : ℕ) (room : List ℤ) (answer : LiteralsAnswer) (after : List ℤ) : Type 1 where
  pub κs : Lfts 2
  pub a : Dens κs literals-kinds.ps
  pub x : AtExit (ended_of 2 literals-kinds.ps literals-kinds.r) κs
  pub promised : literals.Post κs a answer x
  pub file_is : a.0.now ≡ file
  pub horizon_is : a.1.0 ≡ k
  pub number_is : a.1.1.0 ≡ c
  pub room_is : a.1.1.1.0.now ≡ room
  pub after_is : x.1.1.1.0.now ≡ after

-- the end of a reading, called with a file, a horizon, how far the reading is, both rows and room for entries, gave a verdict and left entries
pub record Ended (file : List ℕ) (k : ℕ) (phase : Phase) (rows : Rows) (entries : List ℕ) (verdict : Verdict) (after : List ℕ) : Type 1 where
  pub κs : Lfts 4
  pub a : Dens κs finish-kinds.ps
  pub x : AtExit (ended_of 4 finish-kinds.ps finish-kinds.r) κs
  pub promised : finish.Post κs a verdict x
  pub file_is : a.0.now ≡ file
  pub horizon_is : a.1.0 ≡ k
  pub phase_is : a.1.1.0.phase ≡ phase
  pub rows_are : lent a.1.1.1.0.now a.1.1.1.1.0.now ≡ rows
  pub entries_are : a.1.1.1.1.1.0.now ≡ entries
  pub after_is : x.1.1.1.1.1.0.now ≡ after

-- the way back, called with a file, a horizon, a schedule and both rows, gave a verdict and left rows
pub record WentBack (file : List ℕ) (k : ℕ) (entries : List ℕ) (rows : Rows) (verdict : Verdict) (after : Rows) : Type 1 where
  pub κs : Lfts 4
  pub a : Dens κs back-kinds.ps
  pub x : AtExit (ended_of 4 back-kinds.ps back-kinds.r) κs
  pub promised : way_back.Post κs a verdict x
  pub file_is : a.0.now ≡ file
  pub horizon_is : a.1.0 ≡ k
  pub entries_are : a.1.1.0.now ≡ entries
  pub rows_are : lent a.1.1.1.0.now a.1.1.1.1.0.now ≡ rows
  pub after_is : lent x.1.1.1.0.now x.1.1.1.1.0.now ≡ after

-- ---- the demands

module _ (file : List ℕ) (k : ℕ) where
  abbrev P : Problem
  P = problem_of file k

  -- with room enough lent: the words of N variables in both rows, and k entries
  pub record Enough (rows : Rows) (entries : List ℕ) : Type 0 where
    pub rows_there : rows_fit (N P) rows ≡ true
    pub entries_fit : k ≤ length entries

  -- Demand 2: the formula is exactly the eight families, in the stated order, with true counts; a closed model is accepted exactly if every clause has a
  -- true literal among those named, else refused with 17 and the lowest that has none, and becomes the schedule that its completion states; a schedule becomes a model exactly if its moves can be carried
  -- out and reach the goal
  pub record Demand2 : Type 1 where
    pub families : (room after : ℕ → List ℤ) (answer : ℕ → LiteralsAnswer) → ((c : ℕ) → c < C P → length (clause P c) ≤ length (room c))
        → ((c : ℕ) → c < C P → Spelled file k c (room c) (answer c) (after c))
        → table (C P) (λ c. words_of (answer c) (after c))
        ≡ map (map signed) (joined (family1 P ∷ family2 P ∷ family3 P ∷ family4 P ∷ family5 P ∷ family6 P ∷ family7 P ∷ family8 P ∷ []))
    pub counted : (answer : CountsAnswer) → Counted file k answer
        → answer
        ≡ Ok (record { variables = k * (S (task_of file) + A (task_of file)) + S (task_of file); clauses = sum (count_table (task_of file) k) })
    pub model : (rows : Rows) (entries after : List ℕ) (verdict : Verdict) → Ended file k ModelClosed rows entries verdict after
        → Enough rows entries → (verdict ≡ Ok tt) ↔ (satisfies (model_in rows) (formula P) ≡ true)
    pub refused : (rows : Rows) (entries after : List ℕ) (verdict : Verdict) (c : ℕ) → Ended file k ModelClosed rows entries verdict after
        → Enough rows entries → (verdict ≡ Err (UnmetClause c)) ↔ LowestUnmet P rows c
    pub nothing_else : (phase : Phase) (rows : Rows) (entries after : List ℕ) → Ended file k phase rows entries (Ok tt) after → ModelHolds P phase rows
    pub left_unnamed : (phase : Phase) (rows : Rows) (entries after : List ℕ) → Ended file k phase rows entries (Ok tt) after
        → Unnamed (task_of file) k (model_in rows)
    pub becomes_schedule : (phase : Phase) (rows : Rows) (entries after : List ℕ) → Ended file k phase rows entries (Ok tt) after
        → after ≡ schedule_of P (assigned (completion P (model_in rows))) ++ drop k entries
    pub schedule : (entries : List ℕ) (rows after : Rows) (verdict : Verdict) → WentBack file k entries rows verdict after
        → Enough rows entries → (verdict ≡ Ok tt) ↔ CarriedOut (task_of file) k entries
    pub becomes_model : (entries : List ℕ) (rows after : Rows) → WentBack file k entries rows (Ok tt) after → after ≡ rows_of P entries rows

  -- Demand 3: the way back of what the end wrote is the completion of the model that it read; the end accepts what the way back wrote and gives the
  -- schedule again; no two completions share a schedule; and a model is accepted exactly when a plan of at most k moves exists
  pub record Demand3 : Type 1 where
    pub end_then_back : (phase : Phase) (rows before after : Rows) (entries written : List ℕ) (verdict : Verdict)
        → Ended file k phase rows entries (Ok tt) written → WentBack file k written before verdict after → rows_fit (N P) before ≡ true
        → (verdict ≡ Ok tt) × (after ≡ rows_holding P (completion P (model_in rows)) before)
    pub back_then_end : (entries lent after : List ℕ) (rows written : Rows) (verdict : Verdict)
        → WentBack file k entries rows (Ok tt) written → Ended file k ModelClosed written lent verdict after → k ≤ length lent
        → (verdict ≡ Ok tt) × (take k after ≡ take k entries)
    pub no_two : (phase phase' : Phase) (rows rows' : Rows) (entries entries' after after' : List ℕ)
        → Ended file k phase rows entries (Ok tt) after → Ended file k phase' rows' entries' (Ok tt) after'
        → take k after ≡ take k after' → completion P (model_in rows) ≡ completion P (model_in rows')
    pub plan_of_model : (phase : Phase) (rows : Rows) (entries after : List ℕ) → Ended file k phase rows entries (Ok tt) after
        → (moves : List ℕ) × (length moves ≤ k) × (is_plan (task_of file) moves ≡ true)
    pub model_of_plan : (moves : List ℕ) → length moves ≤ k → is_plan (task_of file) moves ≡ true
        → (rows : Rows) × ModelHolds P ModelClosed rows
        × ((entries after : List ℕ) (verdict : Verdict) → Ended file k ModelClosed rows entries verdict after → k ≤ length entries → verdict ≡ Ok tt)
