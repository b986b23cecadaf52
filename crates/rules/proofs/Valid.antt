-- A valid task in words: what refusals 3 to 7, none of which applies, say of each of its parts.
-- Assumes nothing.
use Rattle.std.specs.Prelude.{Ok}
use mathlib.Core.Path.{◌≡◌, refl, ap}
use mathlib.Core.Bool.{Bool, true, false, not, ◌&&◌}
use mathlib.Core.List.{List}
use Prim.Native.Nat.{ℕ, zero, suc, ◌≤◌, ◌<◌}
use borrow.Author.Tests.{ltb-true, lt-ltb, leb-true, le-leb, eqb-true, eq-eqb}
use lib.Dec.{leb, ltb, eqb}
use lib.ListN.{length}
use Rattle.rules.specs.Counting.{first}
use Rattle.rules.specs.Limits.{max_variables, max_domain, max_values, max_goals, max_actions, max_pairs}
use Rattle.rules.specs.Answers.{judge}
use Rattle.rules.specs.Task.{Pair, Action, Task, n, d, S, A, start_value, pair, action, inside, rises, pair_at_fault, size_at_fault, start_at_fault, list_in_order, action_in_order, action_at_fault, task_rules, Valid}
use Rattle.rules.proofs.Bools.{and_left, and_right, and_both, not_false}
use Rattle.rules.proofs.Counting.{none_at, none_test}
use Rattle.rules.proofs.Judging.{judge_head, judge_tail, judge_cons, judge_nil}

pub record Inside (T : Task) (p : Pair) : Type 0 where
  pub variable_below : p.variable < n T
  pub value_below : p.value < d T p.variable

-- each pair inside, variables rising
pub record InOrder (T : Task) (ps : List Pair) : Type 0 where
  pub inside_each : (i : ℕ) → i < length ps → Inside T (pair ps i)
  pub rising : (i : ℕ) → suc i < length ps → (pair ps i).variable < (pair ps (suc i)).variable

pub record ActionFine (T : Task) (a : Action) : Type 0 where
  pub preconditions_few : length a.preconditions ≤ max_pairs
  pub effects_few : length a.effects ≤ max_pairs
  pub preconditions_fine : InOrder T a.preconditions
  pub effects_fine : InOrder T a.effects

pub record WellFormed (T : Task) : Type 0 where
  pub some_variable : 1 ≤ n T
  pub variables_few : n T ≤ max_variables
  pub start_whole : length T.start ≡ n T
  pub goals_few : length T.goal ≤ max_goals
  pub some_value_lem : (x : ℕ) → x < n T → 1 ≤ d T x
  pub domain_small : (x : ℕ) → x < n T → d T x ≤ max_domain
  pub values_few : S T ≤ max_values
  pub start_inside : (x : ℕ) → x < n T → start_value T x < d T x
  pub goal_fine : InOrder T T.goal
  pub actions_fine : (a : ℕ) → a < A T → ActionFine T (action T a)
  pub actions_few : A T ≤ max_actions

-- ---- lists of pairs

pair_fine : (T : Task) (ps : List Pair) (i : ℕ) → pair_at_fault T ps i ≡ false → (inside T (pair ps i) && rises ps i) ≡ true
unfolding pair_at_fault
pair_fine T ps i h = not_false _ h

pub list_fine : (T : Task) (ps : List Pair) → eqb (first (length ps) (pair_at_fault T ps)) (length ps) ≡ true → InOrder T ps
list_fine T ps h =
    let each : (i : ℕ) → i < length ps → (inside T (pair ps i) && rises ps i) ≡ true = λ i l. pair_fine T ps i (none_at _ _ h i l) in
    record {
      inside_each = λ i l.
          let e : inside T (pair ps i) ≡ true = and_left (inside T (pair ps i)) (rises ps i) (each i l) in
          record {
            variable_below = ltb-true _ _ (and_left (ltb (pair ps i).variable (n T)) (ltb (pair ps i).value (d T (pair ps i).variable)) e);
            value_below = ltb-true _ _ (and_right (ltb (pair ps i).variable (n T)) (ltb (pair ps i).value (d T (pair ps i).variable)) e);
          };
      rising = λ i l. ltb-true _ _ (and_right (inside T (pair ps (suc i))) (rises ps (suc i)) (each (suc i) l));
    }

rises_if : (T : Task) (ps : List Pair) → InOrder T ps → (i : ℕ) → i < length ps → rises ps i ≡ true
rises_if T ps o zero l = refl
rises_if T ps o (suc i) l = lt-ltb _ _ (o.rising i l)

pub fine_list : (T : Task) (ps : List Pair) → InOrder T ps → eqb (first (length ps) (pair_at_fault T ps)) (length ps) ≡ true
unfolding pair_at_fault
fine_list T ps o =
    none_test _ _ (λ i l.
    ap not (and_both _ _
    (and_both _ _ (lt-ltb _ _ (o.inside_each i l).variable_below) (lt-ltb _ _ (o.inside_each i l).value_below))
    (rises_if T ps o i l)))

pub action_fine : (T : Task) (a : Action) → action_in_order T a ≡ true → ActionFine T a
unfolding action_in_order list_in_order
action_fine T a h =
    let pre : list_in_order T a.preconditions ≡ true = and_left (list_in_order T a.preconditions) (list_in_order T a.effects) h in
    let eff : list_in_order T a.effects ≡ true = and_right (list_in_order T a.preconditions) (list_in_order T a.effects) h in
    record {
      preconditions_few = leb-true _ _ (and_left (leb (length a.preconditions) max_pairs) _ pre);
      effects_few = leb-true _ _ (and_left (leb (length a.effects) max_pairs) _ eff);
      preconditions_fine = list_fine T a.preconditions (and_right (leb (length a.preconditions) max_pairs) _ pre);
      effects_fine = list_fine T a.effects (and_right (leb (length a.effects) max_pairs) _ eff);
    }

pub fine_action : (T : Task) (a : Action) → ActionFine T a → action_in_order T a ≡ true
unfolding action_in_order list_in_order
fine_action T a f =
    and_both _ _
    (and_both _ _ (le-leb _ _ f.preconditions_few) (fine_list T a.preconditions f.preconditions_fine))
    (and_both _ _ (le-leb _ _ f.effects_few) (fine_list T a.effects f.effects_fine))

-- ---- the task

-- what acceptance by the five rules says, of a file too
pub record Judged (goalIsWhole : Bool) (is_whole : ℕ → Bool) (T : Task) : Type 0 where
  pub well_formed : WellFormed T
  pub goal_whole : goalIsWhole ≡ true
  pub each_whole : (a : ℕ) → a < A T → is_whole a ≡ true

pub accepted_judged : (g : Bool) (w : ℕ → Bool) (T : Task) → judge (task_rules g w T) ≡ Ok tt → Judged g w T
unfolding task_rules size_at_fault start_at_fault action_at_fault
accepted_judged g w T h₃ =
    let h₄ = judge_tail _ _ h₃ in
    let h₅ = judge_tail _ _ h₄ in
    let h₆ = judge_tail _ _ h₅ in
    let h₇ = judge_tail _ _ h₆ in
    let goals-ok = judge_head _ _ h₃ in
    let whole-ok = and_left (leb 1 (n T) && leb (n T) max_variables && eqb (length T.start) (n T) && g) _ goals-ok in
    let start-ok = and_left (leb 1 (n T) && leb (n T) max_variables && eqb (length T.start) (n T)) g whole-ok in
    let n-ok = and_left (leb 1 (n T) && leb (n T) max_variables) _ start-ok in
    let sizes-ok = and_left (eqb (first (n T) (size_at_fault T)) (n T)) _ (judge_head _ _ h₄) in
    let size : (x : ℕ) → x < n T → (leb 1 (d T x) && leb (d T x) max_domain) ≡ true =
    λ x l. not_false _ (none_at (n T) (size_at_fault T) sizes-ok x l) in
    let actions-ok = and_left (eqb (first (A T) (action_at_fault w T)) (A T)) _ (judge_head _ _ h₇) in
    let each : (a : ℕ) → a < A T → (w a && action_in_order T (action T a)) ≡ true =
    λ a l. not_false _ (none_at (A T) (action_at_fault w T) actions-ok a l) in
    record {
      well_formed =
          record {
            some_variable = leb-true _ _ (and_left (leb 1 (n T)) _ n-ok);
            variables_few = leb-true _ _ (and_right (leb 1 (n T)) _ n-ok);
            start_whole = eqb-true _ _ (and_right (leb 1 (n T) && leb (n T) max_variables) _ start-ok);
            goals_few = leb-true _ _ (and_right (leb 1 (n T) && leb (n T) max_variables && eqb (length T.start) (n T) && g) _ goals-ok);
            some_value_lem = λ x l. leb-true _ _ (and_left (leb 1 (d T x)) _ (size x l));
            domain_small = λ x l. leb-true _ _ (and_right (leb 1 (d T x)) _ (size x l));
            values_few = leb-true _ _ (and_right (eqb (first (n T) (size_at_fault T)) (n T)) _ (judge_head _ _ h₄));
            start_inside = λ x l. ltb-true _ _ (not_false _ (none_at (n T) (start_at_fault T) (judge_head _ _ h₅) x l));
            goal_fine = list_fine T T.goal (judge_head _ _ h₆);
            actions_fine = λ a l. action_fine T (action T a) (and_right (w a) _ (each a l));
            actions_few = leb-true _ _ (and_right (eqb (first (A T) (action_at_fault w T)) (A T)) _ (judge_head _ _ h₇));
          };
      goal_whole = and_right (leb 1 (n T) && leb (n T) max_variables && eqb (length T.start) (n T)) g whole-ok;
      each_whole = λ a l. and_left (w a) _ (each a l);
    }

pub judged_accepted : (g : Bool) (w : ℕ → Bool) (T : Task) → Judged g w T → judge (task_rules g w T) ≡ Ok tt
unfolding task_rules size_at_fault start_at_fault action_at_fault
judged_accepted g w T j =
    let t = j.well_formed in
    judge_cons _ _
    (and_both _ _
    (and_both _ _
    (and_both _ _ (and_both _ _ (le-leb _ _ t.some_variable) (le-leb _ _ t.variables_few)) (eq-eqb _ _ t.start_whole))
    j.goal_whole)
    (le-leb _ _ t.goals_few))
    (judge_cons _ _
    (and_both _ _
    (none_test (n T) (size_at_fault T) (λ x l. ap not (and_both _ _ (le-leb _ _ (t.some_value_lem x l)) (le-leb _ _ (t.domain_small x l)))))
    (le-leb _ _ t.values_few))
    (judge_cons _ _
    (none_test (n T) (start_at_fault T) (λ x l. ap not (lt-ltb _ _ (t.start_inside x l))))
    (judge_cons _ _
    (fine_list T T.goal t.goal_fine)
    (judge_cons _ _
    (and_both _ _
    (none_test (A T) (action_at_fault w T) (λ a l. ap not (and_both _ _ (j.each_whole a l) (fine_action T (action T a) (t.actions_fine a l)))))
    (le-leb _ _ t.actions_few))
    judge_nil))))

pub valid_well_formed : (T : Task) → Valid T → WellFormed T
valid_well_formed T v = (accepted_judged true (λ a. true) T v).well_formed

pub well_formed_valid : (T : Task) → WellFormed T → Valid T
well_formed_valid T t = judged_accepted true (λ a. true) T (record { well_formed = t; goal_whole = refl; each_whole = λ a l. refl })
