-- The walk of a schedule: the state is one record of 96 values that each move changes, values from n on stay 0; refusals 20 to 22.
-- Assumes nothing.
use Rattle.std.specs.Prelude.{ℕ, zero, suc, ◌-◌, ◌≤◌, ◌<◌, Bool, true, not, ◌&&◌, ◌≡◌, List, [], ◌∷◌, ◌++◌, ltb, eqb, length, get_or, set, replicate}
use Rattle.rules.specs.Counting.{every}
use Rattle.rules.specs.Limits.{max_variables}
use Rattle.rules.specs.Answers.{Rule, none_at_fault}
use Rattle.rules.specs.Task.{Pair, Task, n, A, pair, action}
use Rattle.rules.specs.declared.Refusal.TheVariants.{EntryOverA, DoesNotApply, GoalUnmet}

abbrev pub State : Type 0
State = List ℕ

unfoldable pub start_state : Task → State
start_state T = T.start ++ replicate (max_variables - n T) 0

unfoldable pub holds : State → Pair → Bool
holds σ p = eqb (get_or σ p.variable 0) p.value

-- an action applies if all its preconditions hold
unfoldable pub applies : Task → ℕ → State → Bool
applies T a σ = every (holds σ) (action T a).preconditions

-- it sets the variables of its effects and no others
unfoldable pub set_pairs : State → List Pair → State
set_pairs σ [] = σ
set_pairs σ (p ∷ ps) = set_pairs (set σ p.variable p.value) ps

unfoldable pub apply : Task → ℕ → State → State
apply T a σ = set_pairs σ (action T a).effects

-- the goal holds
unfoldable pub reached : Task → State → Bool
reached T σ = every (holds σ) T.goal

-- ---- schedules: an entry is 0 for an empty step, a + 1 for action a

abbrev pub entry : List ℕ → ℕ → ℕ
entry schedule s = get_or schedule s 0

abbrev pub entry_applies : Task → ℕ → State → Bool
entry_applies T zero σ = true
entry_applies T (suc a) σ = applies T a σ

abbrev pub after_entry : Task → ℕ → State → State
after_entry T zero σ = σ
after_entry T (suc a) σ = apply T a σ

-- the state when the first s entries have been carried out
unfoldable pub state_at : Task → List ℕ → ℕ → State
state_at T schedule zero = start_state T
state_at T schedule (suc s) = after_entry T (entry schedule s) (state_at T schedule s)

-- refusals 20 to 22; their steps count from 1
unfoldable pub schedule_rules : Task → ℕ → List ℕ → List Rule
schedule_rules T k schedule =
    none_at_fault k (λ s. ltb (A T) (entry schedule s)) (λ s. EntryOverA (suc s))
    ∷ none_at_fault k (λ s. not (entry_applies T (entry schedule s) (state_at T schedule s))) (λ s. DoesNotApply (suc s))
    ∷ none_at_fault (length T.goal) (λ i. not (holds (state_at T schedule k) (pair T.goal i))) GoalUnmet
    ∷ []

-- each entry is known, each action applies when its step comes, and the goal holds at the end
pub record CarriedOut (T : Task) (k : ℕ) (schedule : List ℕ) : Type 0 where
  pub entries_known : (s : ℕ) → s < k → entry schedule s ≤ A T
  pub each_applies : (s : ℕ) → s < k → entry_applies T (entry schedule s) (state_at T schedule s) ≡ true
  pub reaches_goal : reached T (state_at T schedule k) ≡ true

-- a good schedule for horizon k has k entries, which can be carried out and reach the goal
pub record Good (T : Task) (k : ℕ) (schedule : List ℕ) : Type 0 where
  pub entries : length schedule ≡ k
  pub carried : CarriedOut T k schedule

-- ---- plans, without schedules: actions that can be carried out one after the other and reach the goal

unfoldable pub is_plan_from : Task → State → List ℕ → Bool
is_plan_from T σ [] = reached T σ
is_plan_from T σ (a ∷ moves) = ltb a (A T) && applies T a σ && is_plan_from T (apply T a σ) moves

unfoldable pub is_plan : Task → List ℕ → Bool
is_plan T moves = is_plan_from T (start_state T) moves
