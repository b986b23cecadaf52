-- A model that leaves variables out, and its completion: where the model makes every clause true by a literal that it names, its completion is the one
-- assignment of the schedule that it states.
-- Assumes nothing.
use mathlib.Core.Path.{◌≡◌, refl, sym, ap, ◌∙◌}
use mathlib.Core.Logic.{⊎_elim}
use mathlib.Core.Bool.{Bool, true, false, not}
use mathlib.Core.List.{List, [], ◌∷◌}
use Prim.Native.Nat.{ℕ, suc, ◌-◌, ◌≤◌, ◌<◌}
use native.Mathlib.Omega.{arith}
use lib.ListN.{length, get_or}
use lib.Seq.{ext_get_or}
use Rattle.rules.specs.Task.{Task}
use Rattle.rules.specs.Problem.{Problem, problem}
use Rattle.rules.specs.Numbering.{N}
use Rattle.rules.specs.Families.{Literal, plus, minus, formula}
use Rattle.rules.specs.Truth.{Model, literal_true, clause_true, satisfies, assigned, completion}
use Rattle.rules.specs.Walk.{CarriedOut}
use Rattle.rules.specs.Readings.{schedule_of, assignment_of}
use Rattle.rules.proofs.Bools.{clash, and_left, and_right, not_true, below_or}
use Rattle.rules.proofs.Counting.{length-table, get_or-table}
use Rattle.rules.proofs.Valid.{WellFormed}
use Rattle.rules.proofs.Clauses.{one_of_two}
use Rattle.rules.proofs.Within.{variable_in, SaysMore, satisfied_more, schedule_same}
use Rattle.rules.proofs.Schedules.{schedule_good, assignment_back}

-- ---- what true literals and clauses say of what is named

module _ (M : Model) where
  -- a variable of which a literal is true is named
  pub named : (l : Literal) → literal_true M l ≡ true → M.given (variable_in l) ≡ true
  unfolding literal_true
  named (plus v) t = and_left (M.given v) (M.is_true v) t
  named (minus v) t = and_left (M.given v) (not (M.is_true v)) t

  -- where its negation is true, a variable is not
  pub negated_false : (v : ℕ) → literal_true M (minus v) ≡ true → literal_true M (plus v) ≡ false
  unfolding literal_true
  negated_false v t = rw (named (minus v) t, not_true (M.is_true v) (and_right (M.given v) (not (M.is_true v)) t)) refl

  -- an unnamed variable leaves a clause to the other literal
  pub left_to : (v : ℕ) (l : Literal) → M.given v ≡ false → clause_true M (minus v ∷ l ∷ []) ≡ true → literal_true M l ≡ true
  left_to v l g h = ⊎_elim (λ t. clash (named (minus v) t) g) (λ t. t) (one_of_two M (minus v) l h)

  -- of variables that exclude each other two by two, where one's negation is not true, that of every other is
  pub others_negated : (m : ℕ) (f : ℕ → ℕ) → ((i j : ℕ) → i < j → j < m → clause_true M (minus (f i) ∷ minus (f j) ∷ []) ≡ true)
      → (i j : ℕ) → i < m → j < m → (i ≡ j → ⊥) → (literal_true M (minus (f i)) ≡ true → ⊥) → literal_true M (minus (f j)) ≡ true
  others_negated m f pairs i j hi hj apart untrue =
      ⊎_elim (λ l. ⊎_elim (λ t. absurd (untrue t)) (λ t. t) (one_of_two M _ _ (pairs i j l hj)))
      (λ l.
      ⊎_elim (λ r. ⊎_elim (λ t. t) (λ t. absurd (untrue t)) (one_of_two M _ _ (pairs j i r hi))) (λ r. absurd (apart (omega arith))) (below_or j i))
      (below_or i j)

-- ---- the completion

module _ (P : Problem) where
  pub length-completion : (M : Model) → length (completion P M) ≡ N P
  unfolding completion
  length-completion M = length-table (N P) _

  -- variable v of the completion is true where the model names it and makes it true
  pub completed_at : (M : Model) (v : ℕ) → 1 ≤ v → v ≤ N P → get_or (completion P M) (v - 1) false ≡ literal_true M (plus v)
  unfolding completion
  completed_at M v low up =
      let at : suc (v - 1) ≡ v = omega arith in
      get_or-table (N P) (λ i. literal_true M (plus (suc i))) false (v - 1) (omega arith) ∙ ap (λ v. literal_true M (plus v)) at

  -- in it an unnamed variable is false, and a named one is as it is named
  pub unnamed_false : (M : Model) (i : ℕ) → i < N P → M.given (suc i) ≡ false → get_or (completion P M) i false ≡ false
  unfolding completion literal_true
  unnamed_false M i l g = get_or-table (N P) _ false i l ∙ rw g refl

  pub named_kept : (M : Model) (i : ℕ) → i < N P → M.given (suc i) ≡ true → get_or (completion P M) i false ≡ M.is_true (suc i)
  unfolding completion literal_true
  named_kept M i l g = get_or-table (N P) _ false i l ∙ rw g refl

  -- an assignment is its own completion
  pub own_completion : (bits : List Bool) → length bits ≡ N P → completion P (assigned bits) ≡ bits
  unfolding completion literal_true
  own_completion bits size =
      ext_get_or false (completion P (assigned bits)) bits (length-completion (assigned bits) ∙ sym size)
      (λ i l.
      let at : suc i - 1 ≡ i = omega arith in
      get_or-table (N P) _ false i (omega (arith, length-completion (assigned bits))) ∙ ap (λ i. get_or bits i false) at)

  -- every literal that the model makes true, its completion makes true
  completed_more : (M : Model) → SaysMore P M (assigned (completion P M))
  unfolding literal_true
  completed_more M (plus v) low up t = completed_at M v low up ∙ t
  completed_more M (minus v) low up t = ap not (completed_at M v low up ∙ negated_false M v t)

  pub completed_schedule : (M : Model) → schedule_of P M ≡ schedule_of P (assigned (completion P M))
  unfolding literal_true
  completed_schedule M = schedule_same P M (assigned (completion P M)) (λ v low up. sym (completed_at M v low up))

module _ (T : Task) (fine : WellFormed T) (k : ℕ) (M : Model) (sat : satisfies M (formula (problem T k)) ≡ true) where
  abbrev P : Problem
  P = problem T k

  pub completed_true : satisfies (assigned (completion P M)) (formula P) ≡ true
  completed_true = satisfied_more P M (assigned (completion P M)) (completed_more P M) fine sat

  -- the schedule that the model states can be carried out and reaches the goal
  pub model_good : CarriedOut T k (schedule_of P M)
  model_good = rw (completed_schedule P M) (schedule_good T k fine (completion P M) (length-completion P M) completed_true)

  -- and its assignment is the completion
  pub model_back : assignment_of P (schedule_of P M) ≡ completion P M
  model_back = ap (assignment_of P) (completed_schedule P M) ∙ assignment_back T k fine (completion P M) (length-completion P M) completed_true
