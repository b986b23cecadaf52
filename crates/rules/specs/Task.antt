-- A task: variables with their domains, a start, a goal and actions, and what is at fault in one (refusals 3 to 7).
-- Assumes nothing.
use Rattle.std.specs.Prelude.{ℕ, zero, suc, min, Bool, true, not, ◌&&◌, ◌≡◌, List, [], ◌∷◌, leb, ltb, eqb, length, get_or, Ok}
use Rattle.rules.specs.Counting.{sum_to, first}
use Rattle.rules.specs.Limits.{max_variables, max_domain, max_values, max_goals, max_actions, max_pairs}
use Rattle.rules.specs.Answers.{Rule, demand, none_at_fault, judge}
use Rattle.rules.specs.declared.Refusal.TheVariants.{BodyLength, DomainSize, StartValue, GoalPair, ActionAtFault}

pub record Pair : Type 0 where
  pub variable : ℕ
  pub value : ℕ

pub record Action : Type 0 where
  pub preconditions : List Pair
  pub effects : List Pair

pub record Task : Type 0 where
  pub sizes : List ℕ
  pub start : List ℕ
  pub goal : List Pair
  pub actions : List Action

-- ---- the rules' letters

-- the number of variables
abbrev pub n : Task → ℕ
n T = length T.sizes

-- the number of values of variable x
abbrev pub d : Task → ℕ → ℕ
d T x = get_or T.sizes x 0

-- the sum of d of the variables before x
abbrev pub off : Task → ℕ → ℕ
off T x = sum_to x (d T)

-- the sum of all d
abbrev pub S : Task → ℕ
S T = off T (n T)

-- the number of actions
abbrev pub A : Task → ℕ
A T = length T.actions

abbrev pub start_value : Task → ℕ → ℕ
start_value T x = get_or T.start x 0

abbrev pub pair : List Pair → ℕ → Pair
pair ps i = get_or ps i (record { variable = 0; value = 0 })

abbrev pub action : Task → ℕ → Action
action T a = get_or T.actions a (record { preconditions = []; effects = [] })

-- ---- what is at fault

abbrev pub inside : Task → Pair → Bool
inside T p = ltb p.variable (n T) && ltb p.value (d T p.variable)

-- pair i is above the one before it
abbrev pub rises : List Pair → ℕ → Bool
rises ps zero = true
rises ps (suc i) = ltb (pair ps i).variable (pair ps (suc i)).variable

unfoldable pub pair_at_fault : Task → List Pair → ℕ → Bool
pair_at_fault T ps i = not (inside T (pair ps i) && rises ps i)

unfoldable pub size_at_fault : Task → ℕ → Bool
size_at_fault T x = not (leb 1 (d T x) && leb (d T x) max_domain)

unfoldable pub start_at_fault : Task → ℕ → Bool
start_at_fault T x = not (ltb (start_value T x) (d T x))

-- at most eight pairs, none at fault
unfoldable pub list_in_order : Task → List Pair → Bool
list_in_order T ps = leb (length ps) max_pairs && eqb (first (length ps) (pair_at_fault T ps)) (length ps)

unfoldable pub action_in_order : Task → Action → Bool
action_in_order T a = list_in_order T a.preconditions && list_in_order T a.effects

unfoldable pub action_at_fault : (is_whole : ℕ → Bool) → Task → ℕ → Bool
action_at_fault is_whole T a = not (is_whole a && action_in_order T (action T a))

-- refusals 3 to 7, in order; a file's goal body may have an odd length, and its last action may be cut short
unfoldable pub task_rules : (goalIsWhole : Bool) (is_whole : ℕ → Bool) → Task → List Rule
task_rules goalIsWhole is_whole T =
    demand (leb 1 (n T) && leb (n T) max_variables && eqb (length T.start) (n T) && goalIsWhole && leb (length T.goal) max_goals) BodyLength
    ∷ demand (eqb (first (n T) (size_at_fault T)) (n T) && leb (S T) max_values) (DomainSize (first (n T) (size_at_fault T)))
    ∷ none_at_fault (n T) (start_at_fault T) StartValue
    ∷ none_at_fault (length T.goal) (pair_at_fault T T.goal) GoalPair
    ∷ demand (eqb (first (A T) (action_at_fault is_whole T)) (A T) && leb (A T) max_actions) (ActionAtFault (min max_actions (first (A T) (action_at_fault is_whole T))))
    ∷ []

-- a valid task: none of the refusals 3 to 7 applies to it
abbrev pub Valid : Task → Type 0
Valid T = judge (task_rules true (λ a. true) T) ≡ Ok tt
