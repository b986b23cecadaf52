-- When the clauses of each family are unmet.
-- Assumes nothing.
use mathlib.Core.Path.{◌≡◌, refl, ap, ap₂, ◌∙◌}
use mathlib.Core.Logic.{⊎_elim}
use mathlib.Core.Bool.{Bool, true, false, not, ◌&&◌, ◌||◌}
use mathlib.Core.List.{List, [], ◌∷◌}
use Prim.Native.Nat.{ℕ, suc, ◌+◌, ◌*◌, ◌<◌}
use native.Mathlib.Omega.{arith}
use native.Mathlib.Nat.{zero-mul}
use lib.ListN.{length}
use Rattle.rules.specs.Counting.{sum_to, table, any}
use Rattle.rules.specs.Task.{Task, n, d, A, start_value, pair, action}
use Rattle.rules.specs.Problem.{Problem}
use Rattle.rules.specs.Numbering.{value_number, action_number}
use Rattle.rules.specs.Families.{plus, minus, Clause, supporters, pair_number, clause}
use Rattle.rules.specs.Counts.{pairs_below}
use Rattle.rules.specs.Rows.{Rows, bit_of_variable}
use Rattle.rules.specs.Truth.{literal_true, clause_true, model_in}
use Rattle.rules.specs.File.{task_of}
use Rattle.rules.specs.Calls.{problem_of}
use Rattle.rules.proofs.Bools.{either, clash}
use Rattle.rules.proofs.Counting.{sum_to-const, any_for_each, one_of}
use Rattle.rules.proofs.Pairs.{PairAt}
use Rattle.rules.proofs.ByNumber.{clauses_before, clause1, clause2, clause3, clause4, clause5, clause6, clause7, clause8}
use Rattle.rows.specs.Bits.{counts_true}
use Rattle.checker.specs.Order.{holds_at, pair_at, acts_at, is_unmet, steps_of, items_of, clauses_of, step_clauses, first_clause, pairs_of, pairs_family, told_at}
use Rattle.checker.specs.declared.action_pairs.ActionPairs.{ActionPairs}
use Rattle.checker.specs.declared.action_pairs.ActionPairs.TheVariants.{Preconditions, Effects}

first_not : (a b : Bool) → not (not a || (b || false)) ≡ (a && not b)
first_not true true = refl
first_not true false = refl
first_not false b = refl

both_not : (a b : Bool) → not (not a || (not b || false)) ≡ (a && b)
both_not true true = refl
both_not true false = refl
both_not false b = refl

first_not_and : (a b c : Bool) → not (not a || (b || c)) ≡ (a && (not b && not c))
first_not_and true true c = refl
first_not_and true false c = refl
first_not_and false b c = refl

-- ---- clauses by their literals' bits

module _ (rows : Rows) where
  -- the variables that are named true, and those that are not named false
  abbrev is_named_true : ℕ → Bool
  is_named_true = counts_true false rows

  abbrev not_named_false : ℕ → Bool
  not_named_false = counts_true true rows

  pub literal_plus : (v : ℕ) → literal_true (model_in rows) (plus v) ≡ is_named_true v
  unfolding literal_true counts_true
  literal_plus v = ⊎_elim (λ t. rw t refl) (λ t. rw t refl) (either (bit_of_variable rows.given v))

  literal_minus : (v : ℕ) → literal_true (model_in rows) (minus v) ≡ not (not_named_false v)
  unfolding literal_true counts_true
  literal_minus v = ⊎_elim (λ t. rw t refl) (λ t. rw t refl) (either (bit_of_variable rows.given v))

  one_plus : (v : ℕ) → not (clause_true (model_in rows) (plus v ∷ [])) ≡ not (is_named_true v)
  unfolding clause_true any
  one_plus v = ap (λ b. not (b || false)) (literal_plus v) ∙ ⊎_elim (λ t. rw t refl) (λ t. rw t refl) (either (is_named_true v))

  minus_plus : (u v : ℕ) → not (clause_true (model_in rows) (minus u ∷ plus v ∷ [])) ≡ (not_named_false u && not (is_named_true v))
  unfolding clause_true any
  minus_plus u v = ap₂ (λ a b. not (a || (b || false))) (literal_minus u) (literal_plus v) ∙ first_not (not_named_false u) (is_named_true v)

  minus_minus : (u v : ℕ) → not (clause_true (model_in rows) (minus u ∷ minus v ∷ [])) ≡ (not_named_false u && not_named_false v)
  unfolding clause_true any
  minus_minus u v = ap₂ (λ a b. not (a || (b || false))) (literal_minus u) (literal_minus v) ∙ both_not (not_named_false u) (not_named_false v)

  minus_plus_and : (u v : ℕ) (c : Clause) → not (clause_true (model_in rows) (minus u ∷ plus v ∷ c))
      ≡ (not_named_false u && (not (is_named_true v) && not (any (literal_true (model_in rows)) c)))
  unfolding clause_true any
  minus_plus_and u v c =
      ap₂ (λ a b. not (a || (b || any (literal_true (model_in rows)) c))) (literal_minus u) (literal_plus v)
      ∙ first_not_and (not_named_false u) (is_named_true v) (any (literal_true (model_in rows)) c)

  -- a clause of positive literals is true if one of them is
  some_plus : (m : ℕ) (g : ℕ → ℕ) (v : ℕ) → v < m → is_named_true (g v) ≡ true → not (clause_true (model_in rows) (table m (λ v. plus (g v)))) ≡ false
  unfolding clause_true any
  some_plus m g v h t =
      ap not (any_for_each (literal_true (model_in rows)) m (λ v. plus (g v) ∷ []) v h (ap (λ b. b || false) (literal_plus (g v) ∙ t)))

  no_plus : (m : ℕ) (g : ℕ → ℕ) → ((v : ℕ) → v < m → is_named_true (g v) ≡ false) → not (clause_true (model_in rows) (table m (λ v. plus (g v)))) ≡ true
  unfolding clause_true any
  no_plus m g h =
      ⊎_elim
      (λ t.
      let w = one_of (literal_true (model_in rows)) m (λ v. plus (g v) ∷ []) t in
      let e : any (literal_true (model_in rows)) (plus (g w.0) ∷ []) ≡ false = ap (λ b. b || false) (literal_plus (g w.0) ∙ h w.0 w.1) in
      clash w.2 e)
      (λ f. ap not f)
      (either (any (literal_true (model_in rows)) (table m (λ v. plus (g v)))))

-- ---- clauses by their numbers

module _ (file : List ℕ) (rows : Rows) (k : ℕ) where
  abbrev T : Task
  T = task_of file

  abbrev P : Problem
  P = problem_of file k

  value_same : (unnamed : Bool) (s x v : ℕ) → counts_true unnamed rows (value_number P s x v) ≡ holds_at unnamed file rows s x v
  unfolding holds_at value_number problem_of
  value_same unnamed s x v = refl

  action_same : (unnamed : Bool) (s a : ℕ) → counts_true unnamed rows (action_number P s a) ≡ acts_at unnamed file rows s a
  unfolding acts_at action_number problem_of
  action_same unnamed s a = refl

  by_clause : (c : ℕ) (cl : Clause) → clause P c ≡ cl → is_unmet file k rows c ≡ not (clause_true (model_in rows) cl)
  unfolding is_unmet
  by_clause c cl e = ap (λ cl. not (clause_true (model_in rows) cl)) e

  pub false_start : (x at : ℕ) → x < items_of T 0 → at ≡ first_clause T k 0 0 x → is_unmet file k rows at ≡ not (holds_at false file rows 0 x (start_value T x))
  unfolding items_of first_clause step_clauses clauses_of problem_of
  false_start x at hx e =
      by_clause at _ (clause1 P at x hx (omega (arith, sum_to-const x 1, zero-mul (sum_to (n T) (clauses_of T 0)))))
      ∙ one_plus rows (value_number P 0 x (start_value T x))
      ∙ ap not (value_same false 0 x (start_value T x))

  pub false_goal : (i at : ℕ) → i < items_of T 1 → at ≡ first_clause T k 1 0 i
      → is_unmet file k rows at ≡ not (holds_at false file rows k (pair T.goal i).variable (pair T.goal i).value)
  unfolding items_of first_clause step_clauses clauses_of problem_of
  false_goal i at hi e =
      by_clause at _ (clause2 P at i hi (omega (arith, sum_to-const i 1, zero-mul (sum_to (length T.goal) (clauses_of T 1)))))
      ∙ one_plus rows (pair_number P k (pair T.goal i))
      ∙ ap not (value_same false k (pair T.goal i).variable (pair T.goal i).value)

  abbrev values_at : ℕ → ℕ → Clause
  values_at s x = table (d T x) (λ v. plus (value_number P s x v))

  some_is : (s x at : ℕ) → s < steps_of k 2 → x < items_of T 2 → at ≡ first_clause T k 2 s x
      → is_unmet file k rows at ≡ not (clause_true (model_in rows) (values_at s x))
  unfolding steps_of items_of first_clause step_clauses clauses_of problem_of
  some_is s x at hs hx e =
      by_clause at _ (clause3 P at s x hs hx (e ∙ ap₂ (λ w r. clauses_before T k 2 + (s * w + r)) (one_each (n T)) (one_each x)))
    where
      one_each : (m : ℕ) → sum_to m (λ i. 1) ≡ m
      one_each m = omega (arith, sum_to-const m 1)

  pub some_true : (s x at v : ℕ) → s < steps_of k 2 → x < items_of T 2 → at ≡ first_clause T k 2 s x → v < d T x → holds_at false file rows s x v ≡ true
      → is_unmet file k rows at ≡ false
  some_true s x at v hs hx e hv t = some_is s x at hs hx e ∙ some_plus rows (d T x) (value_number P s x) v hv (value_same false s x v ∙ t)

  pub some_false : (s x at : ℕ) → s < steps_of k 2 → x < items_of T 2 → at ≡ first_clause T k 2 s x → ((v : ℕ) → v < d T x → holds_at false file rows s x v ≡ false)
      → is_unmet file k rows at ≡ true
  some_false s x at hs hx e f = some_is s x at hs hx e ∙ no_plus rows (d T x) (value_number P s x) (λ v hv. value_same false s x v ∙ f v hv)

  pub false_values : (s x at r v w : ℕ) → s < steps_of k 3 → x < items_of T 3 → at ≡ first_clause T k 3 s x → PairAt (d T x) r v w
      → is_unmet file k rows (at + r) ≡ (holds_at true file rows s x v && holds_at true file rows s x w)
  unfolding steps_of items_of first_clause step_clauses clauses_of problem_of
  false_values s x at r v w hs hx e p =
      by_clause (at + r) _ (clause4 P (at + r) s x r v w hs hx p (omega arith))
      ∙ minus_minus rows (value_number P s x v) (value_number P s x w)
      ∙ ap₂ ◌&&◌ (value_same true s x v) (value_same true s x w)

  false_precondition : (s a at i : ℕ) → s < steps_of k 4 → a < items_of T 4 → at ≡ first_clause T k 4 s a → i < clauses_of T 4 a
      → is_unmet file k rows (at + i)
      ≡ (acts_at true file rows s a && not (pair_at file rows s (pair (action T a).preconditions i)))
  unfolding pair_at steps_of items_of first_clause step_clauses clauses_of problem_of
  false_precondition s a at i hs ha e hi =
      by_clause (at + i) _ (clause5 P (at + i) s a i hs ha hi (omega arith))
      ∙ minus_plus rows (action_number P s a) (pair_number P s (pair (action T a).preconditions i))
      ∙ ap₂ (λ a b. a && not b) (action_same true s a) (value_same false s (pair (action T a).preconditions i).variable (pair (action T a).preconditions i).value)

  false_effect : (s a at i : ℕ) → s < steps_of k 5 → a < items_of T 5 → at ≡ first_clause T k 5 s a → i < clauses_of T 5 a
      → is_unmet file k rows (at + i)
      ≡ (acts_at true file rows s a && not (pair_at file rows (suc s) (pair (action T a).effects i)))
  unfolding pair_at steps_of items_of first_clause step_clauses clauses_of problem_of
  false_effect s a at i hs ha e hi =
      by_clause (at + i) _ (clause6 P (at + i) s a i hs ha hi (omega arith))
      ∙ minus_plus rows (action_number P s a) (pair_number P (suc s) (pair (action T a).effects i))
      ∙ ap₂ (λ a b. a && not b) (action_same true s a) (value_same false (suc s) (pair (action T a).effects i).variable (pair (action T a).effects i).value)

  -- the same of each list of an action's pairs
  pub false_pair : (list : ActionPairs) (s a at i : ℕ) → s < steps_of k (pairs_family list) → a < items_of T (pairs_family list)
      → at ≡ first_clause T k (pairs_family list) s a → i < clauses_of T (pairs_family list) a
      → is_unmet file k rows (at + i)
      ≡ (acts_at true file rows s a && not (pair_at file rows (told_at list s) (pair (pairs_of list (action T a)) i)))
  false_pair Preconditions = false_precondition
  false_pair Effects = false_effect

  pub false_stay : (s x at v : ℕ) → s < steps_of k 6 → x < items_of T 6 → at ≡ first_clause T k 6 s x → v < clauses_of T 6 x
      → is_unmet file k rows (at + v)
      ≡ (holds_at true file rows (suc s) x v && (not (holds_at false file rows s x v) && not (any (literal_true (model_in rows)) (supporters P s x v))))
  unfolding steps_of items_of first_clause step_clauses clauses_of problem_of
  false_stay s x at v hs hx e hv =
      by_clause (at + v) _ (clause7 P (at + v) s x v hs hx hv (omega arith))
      ∙ minus_plus_and rows (value_number P (suc s) x v) (value_number P s x v) (supporters P s x v)
      ∙ ap₂ (λ a b. a && (not b && not (any (literal_true (model_in rows)) (supporters P s x v)))) (value_same true (suc s) x v) (value_same false s x v)

  one_item : step_clauses T 7 ≡ pairs_below (A T)
  unfolding step_clauses items_of clauses_of sum_to
  one_item = omega arith

  first_item : (s : ℕ) → first_clause T k 7 s 0 ≡ clauses_before T k 7 + s * pairs_below (A T)
  unfolding first_clause sum_to
  first_item s = omega (arith, ap (λ w. s * w) one_item)

  pub false_actions : (s at r a b : ℕ) → s < steps_of k 7 → at ≡ first_clause T k 7 s 0 → PairAt (A T) r a b
      → is_unmet file k rows (at + r) ≡ (acts_at true file rows s a && acts_at true file rows s b)
  unfolding steps_of problem_of
  false_actions s at r a b hs e p =
      by_clause (at + r) _ (clause8 T k (at + r) s r a b hs p (omega (arith, first_item s)))
      ∙ minus_minus rows (action_number P s a) (action_number P s b)
      ∙ ap₂ ◌&&◌ (action_same true s a) (action_same true s b)
