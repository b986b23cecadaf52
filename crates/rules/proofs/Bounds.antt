-- The bounds that the rules state of a formula: N, C and the literals of a clause.
-- Assumes nothing.
use mathlib.Core.Path.{◌≡◌, refl}
use mathlib.Core.Bool.{Bool, true}
use mathlib.Core.List.{[]}
use Prim.Native.Nat.{ℕ, suc, ◌+◌, ◌-◌, ◌*◌, ◌/◌, ◌≤◌, ◌<◌}
use native.Mathlib.Omega.{arith}
use native.Mathlib.Nat.{mul-le-mul, mul-le-mul_left, le_trans}
use borrow.Author.Tests.{leb-true, le-leb}
use lib.Dec.{leb}
use lib.ListN.{length}
use Rattle.rules.specs.Counting.{sum_to, every}
use Rattle.rules.specs.Limits.{max_domain, max_values, max_actions, max_pairs, max_horizon, max_n, max_c, max_literals}
use Rattle.rules.specs.Task.{Task, n, d, S, A, action}
use Rattle.rules.specs.Problem.{Problem, problem}
use Rattle.rules.specs.Numbering.{N}
use Rattle.rules.specs.Families.{Clause, formula, gives, supporters, C, clause}
use Rattle.rules.proofs.Counting.{sum_to-le, sum_to-scale, sum_to-most, length-table, every_get_or}
use Rattle.rules.proofs.EachClause.{every_clause}
use Rattle.rules.proofs.Valid.{WellFormed}
use Rattle.rules.specs.Counts.{pairs_below, count_table}
use Rattle.rules.proofs.Counts.{length_most, length-when, C-is}

-- ---- N and C

-- each of m numbers is in a pair with at most so many others, and a pair has two numbers
pairs_twice : (m others : ℕ) → m ≤ suc others → 2 * pairs_below m ≤ others * m
pairs_twice m others h = let l : m - 1 ≤ others = omega arith in omega (arith, mul-le-mul_left m l)

module _ (T : Task) (t : WellFormed T) where
  pub N-bound : (k : ℕ) → k ≤ max_horizon → N (problem T k) ≤ max_n
  unfolding N
  N-bound k h = let l : S T + A T ≤ max_values + max_actions = omega arith in omega (arith, mul-le-mul h l)

  pub value_pairs : sum_to (n T) (λ x. pairs_below (d T x)) ≤ (max_domain - 1) * max_values / 2
  value_pairs =
      let twice : sum_to (n T) (λ x. 2 * pairs_below (d T x)) ≤ sum_to (n T) (λ x. (max_domain - 1) * d T x) =
      sum_to-le (n T) _ _ (λ x l. pairs_twice (d T x) (max_domain - 1) (t.domain_small x l)) in
      omega (arith, sum_to-scale (n T) 2 (λ x. pairs_below (d T x)), sum_to-scale (n T) (max_domain - 1) (d T))

  action_pairs : pairs_below (A T) ≤ pairs_below max_actions
  action_pairs = omega (arith, pairs_twice (A T) (max_actions - 1) t.actions_few)

  pub all_preconditions : sum_to (A T) (λ a. length (action T a).preconditions) ≤ max_actions * max_pairs
  all_preconditions = omega (arith, sum_to-most (A T) max_pairs _ (λ a l. (t.actions_fine a l).preconditions_few))

  pub all_effects : sum_to (A T) (λ a. length (action T a).effects) ≤ max_actions * max_pairs
  all_effects = omega (arith, sum_to-most (A T) max_pairs _ (λ a l. (t.actions_fine a l).effects_few))

  -- the eight counts, each at its own bound
  pub C-bound : (k : ℕ) → k ≤ max_horizon → C (problem T k) ≤ max_c
  unfolding sum_to count_table
  C-bound k h =
      let states : suc k ≤ suc max_horizon = omega arith in
      rw (C-is T k)
      (omega (
        arith,
        mul-le-mul states t.variables_few,
        mul-le-mul states value_pairs,
        mul-le-mul h all_preconditions,
        mul-le-mul h all_effects,
        mul-le-mul h t.values_few,
        mul-le-mul h action_pairs,
      ))

-- ---- the literals of a clause, under any rule and at any horizon

abbrev pub short : Clause → Bool
short c = leb (length c) max_literals

module _ (P : Problem) (t : WellFormed P.task) where
  supporters_few : (s x v : ℕ) → length (supporters P s x v) ≤ max_actions
  unfolding supporters
  supporters_few s x v = le_trans (length_most (A P.task) 1 _ (λ a l. length-when (gives P a x v) _)) (omega arith)

  pub all_short : every short (formula P) ≡ true
  all_short =
      every_clause P short
      (record {
        in1 = λ x hx. refl;
        in2 = λ i hi. refl;
        in3 = λ s x hs hx. rw length-table (omega (arith, le-leb, t.domain_small x hx));
        in4 = λ s x v w hs hx l hw. refl;
        in5 = λ s a i hs ha hi. refl;
        in6 = λ s a i hs ha hi. refl;
        in7 = λ s x v hs hx hv. omega (arith, le-leb, supporters_few s x v);
        in8 = λ s a b hs l hb e. refl;
      })

  pub clause_bound : (c : ℕ) → c < C P → length (clause P c) ≤ max_literals
  unfolding C clause
  clause_bound c b = leb-true _ _ (every_get_or short (formula P) [] all_short c b)
