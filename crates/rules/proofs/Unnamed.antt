-- What an accepted model may leave unnamed, for every valid task and every horizon: at a step without a move one action, which would change nothing there,
-- and no value. So its completion is the model of the schedule that it states.
-- Assumes nothing.
use Rattle.std.specs.Prelude.{Ok}
use mathlib.Core.Path.{◌≡◌, refl, sym, ap, ◌∙◌}
use mathlib.Core.Logic.{⊎_elim}
use mathlib.Core.Bool.{true, false}
use mathlib.Core.List.{List}
use Prim.Native.Nat.{ℕ, suc, ◌-◌, ◌≤◌, ◌<◌}
use native.Mathlib.Omega.{arith}
use borrow.Author.Tests.{eqb-true, eqb-false, le-ltb}
use lib.Dec.{eqb}
use lib.ListN.{length, get_or}
use Rattle.rules.specs.Counting.{every}
use Rattle.rules.specs.Task.{Pair, Task, d, A, pair, action, Valid}
use Rattle.rules.specs.Problem.{Problem, problem}
use Rattle.rules.specs.Numbering.{value_number, action_number, N}
use Rattle.rules.specs.Families.{plus, minus, pair_number}
use Rattle.rules.specs.Rows.{Rows, bit_of_variable}
use Rattle.rules.specs.Truth.{Model, literal_true, clause_true, satisfies, model_in, completion}
use Rattle.rules.specs.Walk.{holds, applies, apply, entry, state_at}
use Rattle.rules.specs.Readings.{true_action, entry_of, schedule_of, assignment_of}
use Rattle.rules.specs.Output.{outcome}
use Rattle.rules.specs.declared.Phase.{Phase}
use Rattle.rules.proofs.Bools.{either, clash}
use Rattle.rules.proofs.Counting.{first_none, every_by}
use Rattle.rules.proofs.Valid.{InOrder, WellFormed, valid_well_formed}
use Rattle.rules.proofs.Numbering.{AtValue, AtAction, value_number-positive, value_number-within}
use Rattle.rules.proofs.EachClause.{EachClause, each_clause}
use Rattle.rules.proofs.LaidOut.{layout_value}
use Rattle.rules.proofs.Clauses.{among}
use Rattle.rules.proofs.Moves.{set_held}
use Rattle.rules.proofs.Pairing.{walked_values, assignment_by}
use Rattle.rules.proofs.Schedules.{entry_moves, same_walk, same_assignment, entry_at}
use Rattle.rules.proofs.Completed.{named, negated_false, left_to, others_negated, completed_at, model_back}
use Rattle.rules.proofs.Endings.{accepted_holds}
use Rattle.rules.proofs.Demands.{Satisfying}

-- ---- the statements

module _ (T : Task) (k : ℕ) (M : Model) where
  abbrev P : Problem
  P = problem T k

  abbrev schedule : List ℕ
  schedule = schedule_of P M

  -- action a is left unnamed at step s
  pub record UnnamedAt (s a : ℕ) : Type 0 where
    pub at : AtAction P s a
    pub not_given : M.given (action_number P s a) ≡ false

  pub record Unnamed : Type 0 where
    -- every value at every step is named
    pub values_named : (s x v : ℕ) → AtValue P s x v → M.given (value_number P s x v) ≡ true
    -- at a step at most one action is unnamed
    pub one_unnamed : (s a b : ℕ) → UnnamedAt s a → UnnamedAt s b → a ≡ b
    -- where one is, the step is without a move
    pub no_move : (s a : ℕ) → UnnamedAt s a → entry schedule s ≡ 0
    -- and the action applies there and would change nothing
    pub changes_nothing : (s a : ℕ) → UnnamedAt s a
        → (applies T a (state_at T schedule s) ≡ true) × (apply T a (state_at T schedule s) ≡ state_at T schedule s)
    -- the schedule's own assignment makes true exactly what the model names as true
    pub own_model : (i : ℕ) → i < N P → get_or (assignment_of P schedule) i false ≡ literal_true M (plus (suc i))

  -- ---- their proofs

  module _ (fine : WellFormed T) (sat : Satisfying T k M) where
    each : EachClause P (clause_true M)
    unfolding satisfies
    each = each_clause P (clause_true M) sat

    -- family 3 has one value of x that is named as true, and beside it family 4 has every other named as false
    values_named : (s x v : ℕ) → AtValue P s x v → M.given (value_number P s x v) ≡ true
    values_named s x v h =
        let number : ℕ → ℕ = value_number P s x in
        let r = among M (d T x) number (each.in3 s x (omega (arith, h.step_of)) h.variable_of_lem) in
        ⊎_elim (λ t. let e : r.0 ≡ v = eqb-true _ _ t in rw (← e) (named M (plus (number r.0)) r.2))
        (λ f.
        named M (minus (number v))
        (others_negated M (d T x) number (λ v w l hw. each.in4 s x v w (omega (arith, h.step_of)) h.variable_of_lem l hw) r.0 v r.1 h.value_of
        (eqb-false _ _ f) (λ t. clash r.2 (negated_false M _ t))))
        (either (eqb r.0 v))

    -- beside an unnamed action family 8 has every other named as false
    others_false : (s a b : ℕ) → UnnamedAt s a → b < A T → (a ≡ b → ⊥) → literal_true M (minus (action_number P s b)) ≡ true
    others_false s a b u hb apart =
        others_negated M (A T) (action_number P s) (λ a b l hb. each.in8 s a b u.at.step_of l hb refl) a b u.at.action_of hb apart
        (λ t. clash (named M (minus _) t) u.not_given)

    one_unnamed : (s a b : ℕ) → UnnamedAt s a → UnnamedAt s b → a ≡ b
    one_unnamed s a b u w =
        ⊎_elim (λ t. eqb-true a b t)
        (λ f. clash (named M (minus _) (others_false s a b u w.at.action_of (eqb-false a b f))) w.not_given)
        (either (eqb a b))

    none_true : (s a : ℕ) → UnnamedAt s a → (b : ℕ) → b < A T → literal_true M (plus (action_number P s b)) ≡ false
    unfolding literal_true
    none_true s a u b hb =
        ⊎_elim (λ t. let e : a ≡ b = eqb-true a b t in rw (← e, u.not_given) refl)
        (λ f. negated_false M _ (others_false s a b u hb (eqb-false a b f)))
        (either (eqb a b))

    no_move : (s a : ℕ) → UnnamedAt s a → entry schedule s ≡ 0
    unfolding entry_of true_action
    no_move s a u =
        let none : true_action P M s ≡ A T = first_none (A T) _ (none_true s a u) in
        entry_at T k M s u.at.step_of ∙ rw (le-ltb (true_action P M s) (A T) (omega (arith, none))) refl

    -- of the values the model names as true just those of the schedule's walk
    told : (s x v : ℕ) → AtValue P s x v → literal_true M (plus (value_number P s x v)) ≡ eqb (get_or (state_at T schedule s) x 0) v
    unfolding assignment_by
    told s x v h =
        let moves = entry_moves schedule in
        sym (completed_at P M _ (value_number-positive P s x v) (value_number-within P s x v h))
        ∙ ap (λ l. get_or l (value_number P s x v - 1) false) (sym (model_back T fine k M sat) ∙ same_assignment T k schedule)
        ∙ layout_value P (walked_values P moves) moves s x v h
        ∙ ap (λ σ. eqb (get_or σ x 0) v) (same_walk T schedule s)

    all_hold : (s : ℕ) (ps : List Pair) → s ≤ k → InOrder T ps
        → ((i : ℕ) → i < length ps → literal_true M (plus (pair_number P s (pair ps i))) ≡ true)
        → every (holds (state_at T schedule s)) ps ≡ true
    unfolding holds
    all_hold s ps hs o t =
        every_by (holds (state_at T schedule s)) ps _ (λ i l.
        let p = o.inside_each i l in
        sym (told s _ _ (record { step_of = hs; variable_of_lem = p.variable_below; value_of = p.value_below })) ∙ t i l)

    -- families 5 and 6 have its preconditions true at this step and its effects at the next, whose state is the same
    changes_nothing : (s a : ℕ) → UnnamedAt s a
        → (applies T a (state_at T schedule s) ≡ true) × (apply T a (state_at T schedule s) ≡ state_at T schedule s)
    unfolding applies apply state_at
    changes_nothing s a u =
        let hs = u.at.step_of in
        let ha = u.at.action_of in
        let before : every (holds (state_at T schedule s)) (action T a).preconditions ≡ true =
        all_hold s _ (omega arith) (fine.actions_fine a ha).preconditions_fine (λ i l. left_to M _ _ u.not_given (each.in5 s a i hs ha l)) in
        let after : every (holds (state_at T schedule (suc s))) (action T a).effects ≡ true =
        all_hold (suc s) _ hs (fine.actions_fine a ha).effects_fine (λ i l. left_to M _ _ u.not_given (each.in6 s a i hs ha l)) in
        (before, set_held (state_at T schedule s) _ (rw (no_move s a u) at after))

    own_model : (i : ℕ) → i < N P → get_or (assignment_of P schedule) i false ≡ literal_true M (plus (suc i))
    own_model i l =
        let at : suc i - 1 ≡ i = omega arith in
        ap (λ bits. get_or bits i false) (model_back T fine k M sat)
        ∙ ap (λ j. get_or (completion P M) j false) (sym at)
        ∙ completed_at P M (suc i) (omega arith) l

pub unnamed : (T : Task) → Valid T → (k : ℕ) (M : Model) → Satisfying T k M → Unnamed T k M
unnamed T valid k M sat =
    let fine : WellFormed T = valid_well_formed T valid in
    record {
      values_named = values_named T k M fine sat;
      one_unnamed = one_unnamed T k M fine sat;
      no_move = no_move T k M fine sat;
      changes_nothing = changes_nothing T k M fine sat;
      own_model = own_model T k M fine sat;
    }

-- it holds of every model that is accepted at the end of a reading
pub accepted_unnamed : (T : Task) → Valid T → (k : ℕ) (phase : Phase) (rows : Rows) → outcome (problem T k) phase rows ≡ Ok tt
    → Unnamed T k (model_in rows)
accepted_unnamed T valid k phase rows h = unnamed T valid k (model_in rows) (accepted_holds (problem T k) rows phase h).all_true

-- so in accepted rows every value at every step is given, and output that left one out is refused
pub accepted_gives : (T : Task) → Valid T → (k : ℕ) (phase : Phase) (rows : Rows) → outcome (problem T k) phase rows ≡ Ok tt
    → (s x v : ℕ) → AtValue (problem T k) s x v → bit_of_variable rows.given (value_number (problem T k) s x v) ≡ true
accepted_gives T valid k phase rows h = (accepted_unnamed T valid k phase rows h).values_named
