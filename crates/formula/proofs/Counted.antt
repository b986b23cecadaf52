-- The families' counts: by steps and by what there is at a step; their running sum comes to C.
-- Assumes nothing.
use mathlib.Core.Path.{◌≡◌, refl, sym, ap, ◌∙◌}
use mathlib.Core.List.{List}
use Prim.Native.Nat.{ℕ, suc, ◌+◌, ◌*◌, ◌≤◌, ◌<◌}
use native.Mathlib.Omega.{arith}
use native.Mathlib.Numerals.{add-one}
use mir.Syntax.{w64}
use mir.Val.{Fits}
use lib.ListN.{get_or}
use Rattle.rules.specs.Counting.{sum_to}
use Rattle.rules.specs.Limits.{max_variables, max_actions, max_horizon, max_c}
use Rattle.rules.specs.Task.{Task, n, A}
use Rattle.rules.specs.Families.{C}
use Rattle.rules.specs.Counts.{count_table}
use Rattle.rules.specs.File.{task_of}
use Rattle.rules.specs.Calls.{problem_of}
use Rattle.rules.proofs.Counting.{sum_to-part}
use Rattle.rules.proofs.Counts.{C-is}
use Rattle.rules.proofs.Bounds.{C-bound}
use Rattle.rules.proofs.ByNumber.{clauses_before}
use Rattle.rules.proofs.Valid.{WellFormed}
use Rattle.rules.proofs.Files.{accepted_well_formed}
use Rattle.task.specs.Index.{Indexed, value_pairs_before, preconditions_before, effects_before}
use Rattle.task.specs.declared.family.Family.{Family}
use Rattle.task.specs.declared.family.Family.TheVariants.{StartValues, GoalPairs, AllValues, TwoValues, Preconditions, Effects, ValuesStay, TwoActions}
use Rattle.task.specs.Families.{family_count, number_of_family, families_in_order}
use Rattle.formula.specs.InFamily.{steps_of, width_of, count_of}
use Rattle.task.proofs.Families.{family_below, family_at}

module _ (file index : List ℕ) (ix : Indexed file index) (m : ℕ) where
  pub variables_few : m ≡ n (task_of file) → m ≤ max_variables
  variables_few e = omega (arith, (accepted_well_formed file ix.accepted).variables_few)

  pub actions_few : m ≡ A (task_of file) → m ≤ max_actions
  actions_few e = omega (arith, (accepted_well_formed file ix.accepted).actions_few)

-- steps and width make the count of the table
pub count_parts : (T : Task) (k : ℕ) (family : Family) → steps_of k (number_of_family family) * width_of T (number_of_family family) ≡ count_of T k (number_of_family family)
unfolding steps_of width_of count_of count_table value_pairs_before preconditions_before effects_before
count_parts T k StartValues = omega arith
count_parts T k GoalPairs = omega arith
count_parts T k AllValues = refl
count_parts T k TwoValues = refl
count_parts T k Preconditions = refl
count_parts T k Effects = refl
count_parts T k ValuesStay = refl
count_parts T k TwoActions = refl

pub count_made : (T : Task) (k : ℕ) (family : Family) (s w : ℕ) → s ≡ steps_of k (number_of_family family) → w ≡ width_of T (number_of_family family)
    → s * w ≡ count_of T k (number_of_family family)
count_made T k family s w es ew = rw (es, ew) (count_parts T k family)

-- ---- the running sum of the counts

pub before_none : (T : Task) (k : ℕ) → clauses_before T k 0 ≡ 0
unfolding clauses_before sum_to
before_none T k = refl

pub before_next : (T : Task) (k f : ℕ) → clauses_before T k (suc f) ≡ clauses_before T k f + count_of T k f
unfolding clauses_before sum_to count_of
before_next T k f = refl

module _ (file : List ℕ) (k : ℕ) where
  abbrev T : Task
  T = task_of file

  pub before_all : clauses_before T k family_count ≡ C (problem_of file k)
  unfolding clauses_before problem_of count_table
  before_all = sym (C-is T k)

  within : (f : ℕ) → f < family_count → clauses_before T k f + count_of T k f ≤ C (problem_of file k)
  unfolding clauses_before count_of
  within f h = omega (arith, sum_to-part family_count (λ i. get_or (count_table T k) i 0) f h, before_all)

  pub sum_next : (i sum count : ℕ) (d : Family) → i < family_count → sum ≡ clauses_before T k i → count ≡ count_of T k (number_of_family (get_or families_in_order i d))
      → sum + count ≡ clauses_before T k (i + 1)
  sum_next i sum count d h e ec = rw (add-one i) (omega (arith, e, before_next T k i, ec, ap (count_of T k) (family_at i d h)))

  pub sum_all : (i sum : ℕ) → i ≤ family_count → family_count ≤ i → sum ≡ clauses_before T k i → sum ≡ C (problem_of file k)
  sum_all i sum h l e = let all : i ≡ family_count = omega arith in e ∙ ap (clauses_before T k) all ∙ before_all

  module _ (index : List ℕ) (ix : Indexed file index) (hk : k ≤ max_horizon) where
    few : WellFormed T
    few = accepted_well_formed file ix.accepted

    clauses_few : C (problem_of file k) ≤ max_c
    unfolding problem_of
    clauses_few = C-bound T few k hk

    pub count_fits : (family : Family) (s w : ℕ) → s ≡ steps_of k (number_of_family family) → w ≡ width_of T (number_of_family family) → Fits w64 (s * w)
    count_fits family s w es ew =
        record { fits = omega (arith, count_made T k family s w es ew, within (number_of_family family) (family_below family), clauses_few) }

    pub sum_fits : (i sum count : ℕ) (d : Family) → i < family_count → sum ≡ clauses_before T k i → count ≡ count_of T k (number_of_family (get_or families_in_order i d))
        → Fits w64 (sum + count)
    sum_fits i sum count d h e ec = record { fits = omega (arith, e, ec, ap (count_of T k) (family_at i d h), within i h, clauses_few) }
