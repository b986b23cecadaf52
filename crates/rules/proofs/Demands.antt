-- Demands 2 and 3 as statements about the definitions in specs/. Proved.antt proves both, for every valid task and every horizon.
-- Assumes nothing.
use Rattle.std.specs.Prelude.{Ok, Err}
use mathlib.Core.Path.{◌≡◌}
use mathlib.Core.Logic.{◌↔◌}
use mathlib.Core.Bool.{Bool, true, false}
use mathlib.Core.List.{List, [], ◌∷◌, ◌++◌, map}
use Prim.Native.Nat.{ℕ, suc, ◌+◌, ◌*◌, ◌≤◌, ◌<◌}
use lib.ListN.{length, get_or}
use Rattle.rules.specs.Counting.{joined}
use Rattle.rules.specs.Answers.{judge}
use Rattle.rules.specs.Task.{Task, S, A}
use Rattle.rules.specs.Problem.{Problem, problem}
use Rattle.rules.specs.Numbering.{N}
use Rattle.rules.specs.Families.{family1, family2, family3, family4, family5, family6, family7, family8, families, formula}
use Rattle.rules.specs.Counts.{sum, count_table}
use Rattle.rules.specs.Text.{ascii, decimal, space, lf, header_line}
use Rattle.rules.specs.Rows.{Rows, bit_of_variable}
use Rattle.rules.specs.Truth.{Model, satisfies, assigned, completion}
use Rattle.rules.specs.Walk.{schedule_rules, CarriedOut, Good, is_plan}
use Rattle.rules.specs.Readings.{schedule_of, assignment_of, rows_of}
use Rattle.rules.specs.Output.{outcome}
use Rattle.rules.specs.declared.Refusal.TheVariants.{UnmetClause}
use Rattle.rules.specs.declared.Phase.{Phase}
use Rattle.rules.specs.declared.Phase.TheVariants.{ModelClosed}
use Rattle.rules.proofs.Endings.{ModelHolds, LowestUnmet}

module _ (T : Task) (k : ℕ) where
  abbrev P : Problem
  P = problem T k

  -- Demand 2: the formula is the eight families in order, with true counts in its header; a closed model is accepted exactly if every clause has a true
  -- literal among those named, else refused with the lowest that has none, and states the schedule of its completion; a schedule is accepted exactly if its moves can be carried out and reach the
  -- goal, and its rows hold its assignment.
  pub record Demand2 : Type 0 where
    pub in_order :
        formula P ≡ joined (family1 P ∷ family2 P ∷ family3 P ∷ family4 P ∷ family5 P ∷ family6 P ∷ family7 P ∷ family8 P ∷ [])
    pub counted : map length (families P) ≡ count_table T k
    pub header :
        header_line P ≡ ascii "p cnf " ++ decimal (k * (S T + A T) + S T) ++ (space ∷ []) ++ decimal (sum (count_table T k)) ++ (lf ∷ [])
    pub model : (phase : Phase) (rows : Rows) → (outcome P phase rows ≡ Ok tt) ↔ ModelHolds P phase rows
    pub refused : (rows : Rows) (c : ℕ) → (outcome P ModelClosed rows ≡ Err (UnmetClause c)) ↔ LowestUnmet P rows c
    pub states : (M : Model) → schedule_of P M ≡ schedule_of P (assigned (completion P M))
    pub schedule : (entries : List ℕ) → (judge (schedule_rules T k entries) ≡ Ok tt) ↔ CarriedOut T k entries
    pub rows_hold : (entries : List ℕ) (rows : Rows) (i : ℕ) → i < N P
        → (bit_of_variable (rows_of P entries rows).given (suc i) ≡ true)
        × (bit_of_variable (rows_of P entries rows).is_true (suc i) ≡ get_or (assignment_of P entries) i false)

  -- every clause has a true literal among those that the model names
  abbrev pub Satisfying : Model → Type 0
  Satisfying M = satisfies M (formula P) ≡ true

  -- Demand 3: the completions of satisfying models, which are the satisfying assignments of the N variables, and the good schedules pair off one to one
  -- by the readings of demand 2, no two completions share a schedule, and there is a satisfying model exactly if there is a plan of at most k moves.
  pub record Demand3 : Type 0 where
    pub completed : (M : Model) → Satisfying M → (length (completion P M) ≡ N P) × Satisfying (assigned (completion P M))
    pub unnamed_false : (M : Model) (i : ℕ) → i < N P → M.given (suc i) ≡ false → get_or (completion P M) i false ≡ false
    pub named_kept : (M : Model) (i : ℕ) → i < N P → M.given (suc i) ≡ true → get_or (completion P M) i false ≡ M.is_true (suc i)
    pub own_completion : (bits : List Bool) → length bits ≡ N P → completion P (assigned bits) ≡ bits
    pub to_schedule : (M : Model) → Satisfying M → Good T k (schedule_of P M)
    pub to_assignment : (entries : List ℕ) → Good T k entries → (length (assignment_of P entries) ≡ N P) × Satisfying (assigned (assignment_of P entries))
    pub there_and_back : (M : Model) → Satisfying M → assignment_of P (schedule_of P M) ≡ completion P M
    pub back_and_there : (entries : List ℕ) → Good T k entries → schedule_of P (assigned (assignment_of P entries)) ≡ entries
    pub no_two : (M M' : Model) → Satisfying M → Satisfying M' → schedule_of P M ≡ schedule_of P M' → completion P M ≡ completion P M'
    pub plan : ((M : Model) × Satisfying M) ↔ ((moves : List ℕ) × (length moves ≤ k) × (is_plan T moves ≡ true))
