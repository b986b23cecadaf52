-- The place of a clause: its family by the counts before it, and in its family what the rules say of clause q of a step.
-- Assumes nothing.
use mathlib.Core.Path.{◌≡◌, refl, sym, ap}
use mathlib.Core.List.{List}
use Prim.Native.Nat.{ℕ, suc, ◌+◌, ◌-◌, ◌*◌, ◌/◌, ◌%◌, ◌≤◌, ◌<◌}
use native.Mathlib.Omega.{arith}
use native.Mathlib.Numerals.{add-one}
use lib.ListN.{length, get_or}
use Rattle.rules.specs.Limits.{max_variables, max_actions}
use Rattle.rules.specs.Task.{Task, n, d, off, S, A, action}
use Rattle.rules.specs.Problem.{Problem, problem}
use Rattle.rules.specs.Families.{C}
use Rattle.rules.specs.Counts.{pairs_below}
use Rattle.rules.specs.File.{task_of}
use Rattle.rules.specs.Calls.{problem_of}
use Rattle.rules.proofs.Pairs.{PairAt}
use Rattle.rules.proofs.Places.{InRow, in_row}
use Rattle.rules.proofs.ByNumber.{clauses_before, clause1, clause2, clause3, clause4, clause5, clause6, clause7, clause8}
use Rattle.rules.proofs.Valid.{WellFormed}
use Rattle.rules.proofs.Files.{accepted_well_formed}
use Rattle.task.specs.Index.{Indexed, value_pairs_before, preconditions_before, effects_before}
use Rattle.formula.specs.declared.place.Place.{Place}
use Rattle.formula.specs.declared.place.Place.TheVariants.{Start, Goal, AllValues, TwoValues, Precondition, Effect, Stays, TwoActions}
use Rattle.formula.specs.Parts.{InPart}
use Rattle.formula.specs.InFamily.{steps_of, width_of, count_of, IsAt, number_in, PlacedIn}
use Rattle.task.specs.declared.family.Family.{Family}
use Rattle.task.specs.declared.family.Family.TheVariants.{StartValues, GoalPairs, AllValues as AllValuesFamily}
use Rattle.task.specs.Families.{family_count, number_of_family, families_in_order}
use Rattle.formula.proofs.Counted.{before_none, before_next, before_all, count_parts}
use Rattle.task.proofs.Families.{family_at}

-- ---- the family

module _ (file : List ℕ) (k c : ℕ) where
  abbrev T : Task
  T = task_of file

  -- clause c is clause `before` of family i or of those behind it
  pub record Ranked (i before : ℕ) : Type 0 where
    pub is : clauses_before T k i + before ≡ c
    pub some : c < C (problem_of file k)

  pub ranked_first : c < C (problem_of file k) → Ranked 0 c
  ranked_first h = record { is = omega (arith, before_none T k); some = h }

  module _ (i before count : ℕ) (d : Family) (r : Ranked i before) (h : i < family_count) (e : count ≡ count_of T k (number_of_family (get_or families_in_order i d))) where
    pub ranked_next : count ≤ before → Ranked (i + 1) (before - count)
    ranked_next l =
        record {
          is = rw (add-one i) (omega (arith, before_next T k i, r.is, e, ap (count_of T k) (family_at i d h)));
          some = r.some;
        }

  -- behind the last family is no clause
  pub ranked_last : (i before : ℕ) → Ranked i before → i ≤ family_count → family_count ≤ i → ⊥
  ranked_last i before r h l =
      let all : i ≡ family_count = omega arith in absurd (omega (arith, r.is, r.some, ap (clauses_before T k) all, before_all file k))

-- ---- the step, and the clause's number there

module _ (file : List ℕ) (k c r w : ℕ) (family : Family) (hr : r < count_of (task_of file) k (number_of_family family)) (ew : w ≡ width_of (task_of file) (number_of_family family)) where
  abbrev f : ℕ
  f = number_of_family family

  in_step : InRow (steps_of k f) w r
  in_step = in_row (steps_of k f) w r (omega (arith, hr, ap (λ w. steps_of k f * w) ew, count_parts (task_of file) k family))

  pub some_width : 0 < w
  some_width = omega (arith, in_step.place)

  pub step_below : r / w < steps_of k f
  step_below = in_step.row

  pub rest_below : r % w < width_of (task_of file) f
  rest_below = omega (arith, in_step.place)

  pub place_found : (place : Place) → clauses_before (task_of file) k f + r ≡ c → PlacedIn file k f (r / w) (r % w) place → IsAt (problem_of file k) c place
  unfolding PlacedIn number_in
  place_found place e p =
      let number : clauses_before (task_of file) k f + (r / w * width_of (task_of file) f + r % w) ≡ c =
      omega (arith, e, in_step.is, ap (λ m. r / w * m) ew) in
      rw number at p

-- ---- the place, family by family

module _ (file : List ℕ) (k s q : ℕ) where
  abbrev P : Problem
  P = problem (task_of file) k

  abbrev Tk : Task
  Tk = task_of file

  pub start_placed : (family : Family) → family ≡ StartValues → s < steps_of k (number_of_family family) → q < width_of Tk (number_of_family family)
      → PlacedIn file k (number_of_family family) s q (Start q)
  unfolding PlacedIn number_in problem_of steps_of width_of
  start_placed family e hs hq =
      let h : s < 1 = rw e at hs in
      let none : s * n Tk ≡ 0 = let z : s ≡ 0 = omega arith in rw z (omega arith) in
      let l : q < n Tk = rw e at hq in
      rw e (record { inside = l; is = sym (clause1 P _ q l (omega arith)); number = omega arith })

  pub goal_placed : (family : Family) → family ≡ GoalPairs → s < steps_of k (number_of_family family) → q < width_of Tk (number_of_family family)
      → PlacedIn file k (number_of_family family) s q (Goal q)
  unfolding PlacedIn number_in problem_of steps_of width_of
  goal_placed family e hs hq =
      let h : s < 1 = rw e at hs in
      let none : s * length Tk.goal ≡ 0 = let z : s ≡ 0 = omega arith in rw z (omega arith) in
      let l : q < length Tk.goal = rw e at hq in
      rw e (record { inside = l; is = sym (clause2 P _ q l (omega arith)); number = omega arith })

  pub all_values_placed : (family : Family) → family ≡ AllValuesFamily → s < steps_of k (number_of_family family) → q < width_of Tk (number_of_family family)
      → PlacedIn file k (number_of_family family) s q (AllValues s q)
  unfolding PlacedIn number_in problem_of steps_of width_of
  all_values_placed family e hs hq =
      let h : s < suc k = rw e at hs in
      let l : q < n Tk = rw e at hq in
      rw e (record { inside = (h, l); is = sym (clause3 P _ s q h l refl); number = refl })

  -- the pair of values q of step s
  module _ (x before m v w : ℕ) (i : InPart (n Tk) (λ x. pairs_below (d Tk x)) q x) (eb : before ≡ value_pairs_before Tk x) where
    pub pairs_behind : before ≤ q
    unfolding value_pairs_before
    pairs_behind = omega (arith, i.begun)

    pub pair_inside : m ≡ d Tk x → q - before < pairs_below m
    unfolding value_pairs_before
    pair_inside em = rw (em, eb) i.inside

    pub two_values-placed : s < steps_of k 3 → m ≡ d Tk x → PairAt m (q - before) v w → PlacedIn file k 3 s q (TwoValues s x v w)
    unfolding PlacedIn number_in problem_of steps_of width_of value_pairs_before
    two_values-placed hs em p =
        let p' : PairAt (d Tk x) (q - before) v w = rw em at p in
        record {
          inside = (hs, i.below, p'.rising, p'.below);
          is = sym (clause4 P _ s x (q - before) v w hs i.below p' (omega (arith, i.begun)));
          number = omega (arith, i.begun, p'.is);
        }

  module _ (a before : ℕ) (i : InPart (A Tk) (λ a. length (action Tk a).preconditions) q a) (eb : before ≡ preconditions_before Tk a) where
    pub preconditions_behind : before ≤ q
    unfolding preconditions_before
    preconditions_behind = omega (arith, i.begun)

    pub precondition_placed : s < steps_of k 4 → PlacedIn file k 4 s q (Precondition s a (q - before))
    unfolding PlacedIn number_in problem_of steps_of width_of preconditions_before
    precondition_placed hs =
        let l : q - before < length (action Tk a).preconditions = rw eb i.inside in
        record {
          inside = (hs, i.below, l);
          is = sym (clause5 P _ s a (q - before) hs i.below l (omega (arith, i.begun)));
          number = omega (arith, i.begun);
        }

  module _ (a before : ℕ) (i : InPart (A Tk) (λ a. length (action Tk a).effects) q a) (eb : before ≡ effects_before Tk a) where
    pub effects_behind : before ≤ q
    unfolding effects_before
    effects_behind = omega (arith, i.begun)

    pub effect_placed : s < steps_of k 5 → PlacedIn file k 5 s q (Effect s a (q - before))
    unfolding PlacedIn number_in problem_of steps_of width_of effects_before
    effect_placed hs =
        let l : q - before < length (action Tk a).effects = rw eb i.inside in
        record {
          inside = (hs, i.below, l);
          is = sym (clause6 P _ s a (q - before) hs i.below l (omega (arith, i.begun)));
          number = omega (arith, i.begun);
        }

  module _ (x before : ℕ) (i : InPart (n Tk) (d Tk) q x) (eb : before ≡ off Tk x) where
    pub stays_placed : s < steps_of k 6 → PlacedIn file k 6 s q (Stays s x (q - before))
    unfolding PlacedIn number_in problem_of steps_of width_of
    stays_placed hs =
        let l : q - before < d Tk x = rw eb i.inside in
        record {
          inside = (hs, i.below, l);
          is = sym (clause7 P _ s x (q - before) hs i.below l (omega (arith, i.begun)));
          number = omega (arith, i.begun);
        }

  module _ (m : ℕ) (em : m ≡ A Tk) where
    pub actions_inside : q < width_of Tk 7 → q < pairs_below m
    unfolding width_of
    actions_inside h = rw em h

    pub two_actions-placed : (a b : ℕ) → s < steps_of k 7 → PairAt m q a b → PlacedIn file k 7 s q (TwoActions s a b)
    unfolding PlacedIn number_in problem_of steps_of width_of
    two_actions-placed a b hs p =
        let p' : PairAt (A Tk) q a b = rw em at p in
        record { inside = (hs, p'.rising, p'.below); is = sym (clause8 Tk k _ s q a b hs p' refl); number = omega (arith, p'.is) }

  pub pairs_wanted : q < width_of Tk 3 → q < value_pairs_before Tk (n Tk)
  unfolding width_of
  pairs_wanted h = h

  pub preconditions_wanted : q < width_of Tk 4 → q < preconditions_before Tk (A Tk)
  unfolding width_of
  preconditions_wanted h = h

  pub effects_wanted : q < width_of Tk 5 → q < effects_before Tk (A Tk)
  unfolding width_of
  effects_wanted h = h

  pub values_wanted : q < width_of Tk 6 → q < S Tk
  unfolding width_of
  values_wanted h = h

  module _ (index : List ℕ) (ix : Indexed file index) where
    few : WellFormed Tk
    few = accepted_well_formed file ix.accepted

    pub variable_few : (w : ℕ → ℕ) (x : ℕ) → InPart (n Tk) w q x → x ≤ max_variables
    variable_few w x i = omega (arith, i.below, few.variables_few)

    pub action_few : (w : ℕ → ℕ) (a : ℕ) → InPart (A Tk) w q a → a ≤ max_actions
    action_few w a i = omega (arith, i.below, few.actions_few)

    pub domain_few : (w : ℕ → ℕ) (x m : ℕ) → InPart (n Tk) w q x → m ≡ d Tk x → m ≤ max_actions
    domain_few w x m i e = omega (arith, few.domain_small x i.below)
