-- The order in which the checker goes through the clauses: family by family, in each step by step, in each item by item: a variable, a goal
-- pair or an action. A positive literal is true where its variable counts as true and unnamed ones count as false; a negative one is true where its
-- variable counts as false and unnamed ones count as true.
-- Assumes nothing.
use Rattle.std.specs.Prelude.{ℕ, suc, ◌+◌, ◌*◌, ◌≤◌, ◌<◌, ◌≡◌, Bool, false, not, ◌&&◌, List, [], ◌∷◌, length, get_or}
use Rattle.rules.specs.Counting.{sum_to, first}
use Rattle.rules.specs.Limits.{max_horizon}
use Rattle.rules.specs.Task.{Pair, Action, Task, n, d, A, action}
use Rattle.rules.specs.Numbering.{value_number, action_number}
use Rattle.rules.specs.Families.{clause}
use Rattle.rules.specs.Counts.{pairs_below}
use Rattle.rules.specs.Rows.{Rows}
use Rattle.rules.specs.Truth.{clause_true, model_in}
use Rattle.rules.specs.File.{task_of}
use Rattle.rules.specs.Calls.{problem_of}
use Rattle.rules.proofs.ByNumber.{clauses_before}
use Rattle.rules.proofs.Pairs.{PairAt}
use Rattle.task.specs.Index.{Indexed}
use Rattle.task.specs.Numbers.{at_any_horizon}
use Rattle.rows.specs.Bits.{counts_true}
use Rattle.checker.specs.declared.action_pairs.ActionPairs.{ActionPairs}
use Rattle.checker.specs.declared.action_pairs.ActionPairs.TheVariants.{Preconditions, Effects}
use Rattle.task.specs.Families.{family_count}

-- ---- the bits

-- value v of variable x counts as true at step s, where unnamed variables count as `unnamed`
unfoldable pub holds_at : (unnamed : Bool) (file : List ℕ) → Rows → ℕ → ℕ → ℕ → Bool
holds_at unnamed file rows s x v = counts_true unnamed rows (value_number (at_any_horizon file) s x v)

-- a pair is named to hold at step s
unfoldable pub pair_at : (file : List ℕ) → Rows → ℕ → Pair → Bool
pair_at file rows s p = holds_at false file rows s p.variable p.value

-- action a counts as true at step s
unfoldable pub acts_at : (unnamed : Bool) (file : List ℕ) → Rows → ℕ → ℕ → Bool
acts_at unnamed file rows s a = counts_true unnamed rows (action_number (at_any_horizon file) s a)

-- clause c is unmet: it has no true literal among those named
unfoldable pub is_unmet : (file : List ℕ) (k : ℕ) → Rows → ℕ → Bool
is_unmet file k rows c = not (clause_true (model_in rows) (clause (problem_of file k) c))

-- ---- the families, from 0

abbrev pub start_values : ℕ
start_values = 0

abbrev pub goal_pairs : ℕ
goal_pairs = 1

abbrev pub some_value : ℕ
some_value = 2

abbrev pub two_values : ℕ
two_values = 3

abbrev pub preconditions_hold : ℕ
preconditions_hold = 4

abbrev pub effects_hold : ℕ
effects_hold = 5

abbrev pub values_stay : ℕ
values_stay = 6

abbrev pub two_actions : ℕ
two_actions = 7

-- the two lists of pairs that an action has, the family of each, and at which step its pairs are named to hold
abbrev pub pairs_of : ActionPairs → Action → List Pair
pairs_of Preconditions a = a.preconditions
pairs_of Effects a = a.effects

abbrev pub pairs_family : ActionPairs → ℕ
pairs_family Preconditions = preconditions_hold
pairs_family Effects = effects_hold

abbrev pub told_at : ActionPairs → ℕ → ℕ
told_at Preconditions s = s
told_at Effects s = suc s

-- how many steps a family speaks of
unfoldable pub steps_of : (k f : ℕ) → ℕ
steps_of k f = get_or (1 ∷ 1 ∷ suc k ∷ suc k ∷ k ∷ k ∷ k ∷ k ∷ []) f 0

-- how many items at each
unfoldable pub items_of : Task → ℕ → ℕ
items_of T f = get_or (n T ∷ length T.goal ∷ n T ∷ n T ∷ A T ∷ A T ∷ n T ∷ 1 ∷ []) f 0

-- how many clauses item i has
unfoldable pub clauses_of : Task → ℕ → ℕ → ℕ
clauses_of T f i =
    get_or
    (1
    ∷ 1
    ∷ 1
    ∷ pairs_below (d T i)
    ∷ length (action T i).preconditions
    ∷ length (action T i).effects
    ∷ d T i
    ∷ pairs_below (A T)
    ∷ [])
    f
    0

-- how many clauses a step has
unfoldable pub step_clauses : Task → ℕ → ℕ
step_clauses T f = sum_to (items_of T f) (clauses_of T f)

-- the number of item i's first clause at step s
unfoldable pub first_clause : Task → (k f s i : ℕ) → ℕ
first_clause T k f s i = clauses_before T k f + (s * step_clauses T f + sum_to i (clauses_of T f))

-- the search has come to item i of step s of family f, and found nothing unmet before it
pub record Reached (file index : List ℕ) (rows : Rows) (k f s i at : ℕ) : Type 0 where
  pub indexed : Indexed file index
  pub low : k ≤ max_horizon
  pub is : at ≡ first_clause (task_of file) k f s i
  pub none : first at (is_unmet file k rows) ≡ at

-- and the step and the item are there
pub record Come (file index : List ℕ) (rows : Rows) (k f s i at : ℕ) : Type 0 where
  pub reached : Reached file index rows k f s i at
  pub family : f < family_count
  pub step : s < steps_of k f
  pub item : i < items_of (task_of file) f

-- ---- pairs

-- r is the number of the first pair i < j below m of which both bits are set, or the number of pairs where there is none
pub record FirstPair (m : ℕ) (b : ℕ → Bool) (r : ℕ) : Type 0 where
  pub lowest : (q : ℕ → Bool) → ((r i j : ℕ) → PairAt m r i j → q r ≡ (b i && b j)) → r ≡ first (pairs_below m) q
