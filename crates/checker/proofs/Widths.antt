-- How many steps, items and clauses a family has, way by way, and that all clauses together are few.
-- Assumes nothing.
use mathlib.Core.Path.{◌≡◌, refl, ap, ◌∙◌}
use mathlib.Core.Logic.{⊎_elim, ◌⊎◌}
use mathlib.Core.List.{List}
use Prim.Native.Nat.{ℕ, zero, suc, ◌+◌, ◌*◌, ◌≤◌, ◌<◌}
use native.Mathlib.Omega.{arith}
use native.Mathlib.Nat.{mul-le-mul_right, suc-mul}
use lib.ListN.{length, get_or}
use Rattle.rules.specs.Counting.{sum_to}
use Rattle.rules.specs.Limits.{max_variables, max_actions, max_horizon, max_c}
use Rattle.rules.specs.Task.{Task, n, d, S, A, action}
use Rattle.rules.specs.Problem.{problem}
use Rattle.rules.specs.Families.{C}
use Rattle.rules.specs.Counts.{pairs_below, count_table}
use Rattle.rules.specs.File.{task_of}
use Rattle.rules.proofs.Counting.{sum_to-const, sum_to-part}
use Rattle.rules.proofs.Counts.{C-is}
use Rattle.rules.proofs.Valid.{WellFormed}
use Rattle.rules.proofs.Bounds.{C-bound}
use Rattle.rules.proofs.Files.{accepted_well_formed}
use Rattle.rules.proofs.ByNumber.{clauses_before}
use Rattle.task.specs.Index.{Indexed, value_pairs_before, preconditions_before, effects_before}
use Rattle.checker.specs.Order.{steps_of, items_of, clauses_of, step_clauses, first_clause}
use Rattle.task.specs.declared.family.Family.{Family}
use Rattle.task.specs.declared.family.Family.TheVariants.{StartValues, GoalPairs, AllValues, TwoValues, Preconditions, Effects, ValuesStay, TwoActions}
use Rattle.task.specs.Families.{family_count, number_of_family}

-- ---- steps

pub steps_most : (k f : ℕ) → steps_of k f ≤ suc k
unfolding steps_of
steps_most k zero = omega arith
steps_most k (suc zero) = omega arith
steps_most k (suc (suc zero)) = omega arith
steps_most k (suc (suc (suc zero))) = omega arith
steps_most k (suc (suc (suc (suc zero)))) = omega arith
steps_most k (suc (suc (suc (suc (suc zero))))) = omega arith
steps_most k (suc (suc (suc (suc (suc (suc zero)))))) = omega arith
steps_most k (suc (suc (suc (suc (suc (suc (suc zero))))))) = omega arith
steps_most k (suc (suc (suc (suc (suc (suc (suc (suc f)))))))) = omega arith

-- ---- a step's clauses, family by family

module _ (T : Task) where
  pub item_variable : (g : Family) (i : ℕ) → g ≡ TwoValues → i < items_of T (number_of_family g) → i < n T
  unfolding items_of
  item_variable g i e h = rw e at h

  pub step_variables : (g : Family) (r : ℕ) → (g ≡ StartValues) ⊎ (g ≡ AllValues) → r ≡ n T → r ≡ step_clauses T (number_of_family g)
  unfolding step_clauses items_of clauses_of
  step_variables g r e h = ⊎_elim (λ e. rw e (omega (arith, sum_to-const (n T) 1))) (λ e. rw e (omega (arith, sum_to-const (n T) 1))) e

  module _ (g : Family) (r : ℕ) where
    pub step_goals : g ≡ GoalPairs → r ≡ length T.goal → r ≡ step_clauses T (number_of_family g)
    unfolding step_clauses items_of clauses_of
    step_goals e h = rw e (omega (arith, sum_to-const (length T.goal) 1))

    pub step_values : (x : ℕ) → g ≡ TwoValues → x ≡ n T → r ≡ value_pairs_before T x → r ≡ step_clauses T (number_of_family g)
    unfolding step_clauses items_of clauses_of value_pairs_before
    step_values x e i h = rw e (h ∙ ap (λ x. sum_to x (λ y. pairs_below (d T y))) i)

    pub step_preconditions : (a : ℕ) → g ≡ Preconditions → a ≡ A T → r ≡ preconditions_before T a → r ≡ step_clauses T (number_of_family g)
    unfolding step_clauses items_of clauses_of preconditions_before
    step_preconditions a e i h = rw e (h ∙ ap (λ a. sum_to a (λ b. length (action T b).preconditions)) i)

    pub step_effects : (a : ℕ) → g ≡ Effects → a ≡ A T → r ≡ effects_before T a → r ≡ step_clauses T (number_of_family g)
    unfolding step_clauses items_of clauses_of effects_before
    step_effects a e i h = rw e (h ∙ ap (λ a. sum_to a (λ b. length (action T b).effects)) i)

    pub step_stay : g ≡ ValuesStay → r ≡ S T → r ≡ step_clauses T (number_of_family g)
    unfolding step_clauses items_of clauses_of
    step_stay e h = rw e h

    pub step_actions : (m : ℕ) → g ≡ TwoActions → m ≡ A T → r ≡ pairs_below m → r ≡ step_clauses T (number_of_family g)
    unfolding step_clauses items_of clauses_of sum_to
    step_actions m e i h =
        let z : pairs_below (A T) ≡ 0 + pairs_below (A T) = omega arith in rw e (h ∙ ap pairs_below i ∙ z)

  -- ---- a family's clauses, and all of them

  family_is : (k f : ℕ) → f < family_count → get_or (count_table T k) f 0 ≡ steps_of k f * step_clauses T f
  unfolding count_table steps_of step_clauses items_of clauses_of sum_to
  family_is k zero h = omega (arith, sum_to-const (n T) 1)
  family_is k (suc zero) h = omega (arith, sum_to-const (length T.goal) 1)
  family_is k (suc (suc zero)) h = ap (λ m. suc k * m) (omega (arith, sum_to-const (n T) 1))
  family_is k (suc (suc (suc zero))) h = refl
  family_is k (suc (suc (suc (suc zero)))) h = refl
  family_is k (suc (suc (suc (suc (suc zero))))) h = refl
  family_is k (suc (suc (suc (suc (suc (suc zero)))))) h = refl
  family_is k (suc (suc (suc (suc (suc (suc (suc zero))))))) h =
      let e : pairs_below (A T) ≡ 0 + pairs_below (A T) = omega arith in ap (λ m. k * m) e
  family_is k (suc (suc (suc (suc (suc (suc (suc (suc f)))))))) h = absurd (omega arith)

  -- the next family begins behind this one's steps
  pub next_family : (k f : ℕ) → f < family_count → clauses_before T k (suc f) ≡ clauses_before T k f + steps_of k f * step_clauses T f
  unfolding clauses_before sum_to
  next_family k f h = ap (λ m. clauses_before T k f + m) (family_is k f h)

  pub all_families : (k : ℕ) → C (problem T k) ≡ clauses_before T k family_count
  unfolding clauses_before count_table
  all_families k = C-is T k

  families_within : (k f : ℕ) → f < family_count → clauses_before T k (suc f) ≤ C (problem T k)
  unfolding clauses_before sum_to
  families_within k f h =
      rw (all_families k) (sum_to-part family_count (λ i. get_or (count_table T k) i 0) f h)

  pub family_end : (k f : ℕ) → f < family_count → clauses_before T k f + steps_of k f * step_clauses T f ≤ C (problem T k)
  family_end k f h = omega (arith, next_family k f h, families_within k f h)

  -- an item's clauses are within its step's, and a step's within its family's
  pub item_within : (f i : ℕ) → i < items_of T f → sum_to i (clauses_of T f) + clauses_of T f i ≤ step_clauses T f
  unfolding step_clauses
  item_within f i h = sum_to-part (items_of T f) (clauses_of T f) i h

  pub step_within : (k f s : ℕ) → s < steps_of k f → s * step_clauses T f + step_clauses T f ≤ steps_of k f * step_clauses T f
  step_within k f s h = omega (arith, mul-le-mul_right (step_clauses T f) h, suc-mul s (step_clauses T f))

  module _ (fine : WellFormed T) (k f : ℕ) (h : k ≤ max_horizon) (l : f < family_count) where
    pub family_few : clauses_before T k f + steps_of k f * step_clauses T f ≤ max_c
    family_few = omega (arith, next_family k f l, families_within k f l, C-bound T fine k h)

    pub step_few : (s : ℕ) → s < steps_of k f → first_clause T k f s 0 + step_clauses T f ≤ max_c
    unfolding first_clause sum_to
    step_few s hs = omega (arith, family_few, step_within k f s hs)

    pub item_few : (s i : ℕ) → s < steps_of k f → i < items_of T f → first_clause T k f s i + clauses_of T f i ≤ max_c
    unfolding first_clause
    item_few s i hs hi = omega (arith, family_few, step_within k f s hs, item_within f i hi)

-- ---- of an accepted file

module _ (file index : List ℕ) (ix : Indexed file index) where
  fine : WellFormed (task_of file)
  fine = accepted_well_formed file ix.accepted

  pub few_variables : (x : ℕ) → x ≡ n (task_of file) → x ≤ max_variables
  few_variables x e = omega (arith, fine.variables_few)

  pub few_actions : (a : ℕ) → a ≡ A (task_of file) → a ≤ max_actions
  few_actions a e = omega (arith, fine.actions_few)

  pub few_values : (i v : ℕ) → i < n (task_of file) → v ≡ d (task_of file) i → v ≤ max_actions
  few_values i v h e = omega (arith, fine.domain_small i h)
