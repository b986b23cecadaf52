-- The pairing, over any exclusion rule: satisfying assignments and runs, schedules of sets of moves that can be carried out and reach the goal, determine each other.
-- Assumes nothing.
use mathlib.Core.Path.{◌≡◌, refl, sym, ap, ◌∙◌}
use mathlib.Core.Logic.{◌⊎◌, inl, inr, ⊎_elim}
use mathlib.Core.Bool.{Bool, true, false, ◌&&◌}
use mathlib.Core.List.{List}
use Prim.Native.Nat.{ℕ, zero, suc, ◌-◌, ◌≤◌, ◌<◌}
use native.Mathlib.Omega.{arith}
use borrow.Author.Tests.{eqb-true, eq-eqb}
use lib.Dec.{eqb}
use lib.ListN.{length, get_or}
use Rattle.rules.specs.Counting.{every}
use Rattle.rules.specs.Task.{Pair, n, d, A, pair, action}
use Rattle.rules.specs.Problem.{Problem}
use Rattle.rules.specs.Numbering.{value_number, action_number, N}
use Rattle.rules.specs.Families.{gives, pair_number, formula}
use Rattle.rules.specs.Truth.{satisfies, assigned}
use Rattle.rules.specs.Walk.{State, holds, applies, reached}
use Rattle.rules.proofs.Bools.{either, and_left, and_right, and_both, same_truth, below_or}
use Rattle.rules.proofs.Counting.{every_by, every_get_or, any_at, any_where}
use Rattle.rules.proofs.Valid.{Inside, WellFormed}
use Rattle.rules.proofs.Numbering.{AtValue, AtAction}
use Rattle.rules.proofs.LaidOut.{Moves, Values, layout, layout_value, layout_action, laid_out_lem}
use Rattle.rules.proofs.Clauses.{Facts, facts, satisfied}
use Rattle.rules.proofs.Moves.{SetBy, pairs_apart, carried_at, walked, length-walked, start_at}

-- all that the pairing asks of the exclusion rule: two actions that do not exclude each other never set one variable to two values
abbrev pub Agreeing : Problem → Type 0
Agreeing P =
    (a b : ℕ) → a < b → b < A P.task → P.excludes a b ≡ false
    → (i j : ℕ) → i < length (action P.task a).effects → j < length (action P.task b).effects
    → (pair (action P.task a).effects i).variable ≡ (pair (action P.task b).effects j).variable
    → (pair (action P.task a).effects i).value ≡ (pair (action P.task b).effects j).value

-- every chosen action applies when its step comes, no two chosen at a step exclude each other, and the goal holds at the end
pub record Run (P : Problem) (moves : Moves) : Type 0 where
  pub all_apply : (s a : ℕ) → s < P.horizon → a < A P.task → moves s a ≡ true → applies P.task a (walked P.task moves s) ≡ true
  pub none_excluded : (s a b : ℕ) → s < P.horizon → a < b → b < A P.task → P.excludes a b ≡ true → moves s a ≡ true → moves s b ≡ true → ⊥
  pub goal_reached : reached P.task (walked P.task moves P.horizon) ≡ true

-- the value that the walk gives x at step s is v
abbrev pub walked_values : Problem → Moves → Values
walked_values P moves s x v = eqb (get_or (walked P.task moves s) x 0) v

-- the assignment of a run
unfoldable pub assignment_by : Problem → Moves → List Bool
assignment_by P moves = layout P (walked_values P moves) moves

-- the moves that an assignment states
abbrev pub moves_in : Problem → List Bool → Moves
moves_in P bits s a = get_or bits (action_number P s a - 1) false

-- an action that gives x = v has an effect that says so
gives_at_lem : (P : Problem) (a x v : ℕ) → gives P a x v ≡ true → SetBy (action P.task a).effects x v
gives_at_lem P a x v h =
    let r = any_where (λ p. eqb p.variable x && eqb p.value v) (action P.task a).effects (record { variable = 0; value = 0 }) h in
    let p : Pair = pair (action P.task a).effects r.0 in
    record {
      place = r.0;
      below = r.1;
      names = eqb-true _ _ (and_left (eqb p.variable x) (eqb p.value v) r.2);
      gives = eqb-true _ _ (and_right (eqb p.variable x) (eqb p.value v) r.2);
    }

at_gives : (P : Problem) (a x v : ℕ) → SetBy (action P.task a).effects x v → gives P a x v ≡ true
at_gives P a x v r =
    any_at (λ p. eqb p.variable x && eqb p.value v) (action P.task a).effects (record { variable = 0; value = 0 }) r.place r.below
    (and_both _ _ (eq-eqb _ _ r.names) (eq-eqb _ _ r.gives))

-- pairs hold in a state where each does
all_hold : (σ : State) (ps : List Pair) → ((i : ℕ) → i < length ps → eqb (get_or σ (pair ps i).variable 0) (pair ps i).value ≡ true) → every (holds σ) ps ≡ true
unfolding holds
all_hold σ ps h = every_by (holds σ) ps (record { variable = 0; value = 0 }) h

each_holds : (σ : State) (ps : List Pair) → every (holds σ) ps ≡ true → (i : ℕ) → i < length ps → eqb (get_or σ (pair ps i).variable 0) (pair ps i).value ≡ true
unfolding holds
each_holds σ ps h = every_get_or (holds σ) ps (record { variable = 0; value = 0 }) h

module _ (P : Problem) (fine : WellFormed P.task) where
  -- ---- from an assignment to its run

  module _ (bits : List Bool) (size : length bits ≡ N P) (sat : satisfies (assigned bits) (formula P) ≡ true) where
    abbrev τ : ℕ → Bool
    τ v = get_or bits (v - 1) false

    say : Facts P τ
    say = facts P τ sat

    -- at a step only one value of x is true
    unique : (s x v w : ℕ) → s ≤ P.horizon → x < n P.task → v < d P.task x → w < d P.task x
        → τ (value_number P s x v) ≡ true → τ (value_number P s x w) ≡ true → v ≡ w
    unique s x v w hs hx hv hw t u =
        ⊎_elim (λ l. absurd (say.one_value s x v w (omega arith) hx l hw t u))
        (λ l. ⊎_elim (λ r. absurd (say.one_value s x w v (omega arith) hx r hv u t)) (λ r. omega arith) (below_or w v))
        (below_or v w)

    -- the assignment follows the walk of its own moves
    follows : (s x : ℕ) → s ≤ P.horizon → x < n P.task
        → (get_or (walked P.task (moves_in P bits) s) x 0 < d P.task x)
        × (τ (value_number P s x (get_or (walked P.task (moves_in P bits) s) x 0)) ≡ true)
    unfolding walked
    follows zero x hs hx =
        let e = start_at P.task fine x hx in
        (rw e (fine.start_inside x hx), rw e (say.starts x hx))
    follows (suc s) x hs hx =
        ⊎_elim
        (λ r.
        let i = (fine.actions_fine r.action_of r.action_below).effects_fine.inside_each r.by.place r.by.below in
        let t = say.causes s r.action_of r.by.place (omega arith) r.action_below r.by.below r.is_chosen in
        let ex = r.by.names in
        let ev = r.by.gives in
        (rw (ex, ev) at i.value_below, rw (ex, ev) at t))
        (λ r.
        let ih = follows s x (omega arith) hx in
        let v = say.some_value_lem (suc s) x (omega arith) hx in
        let before : τ (value_number P s x v.0) ≡ true =
        ⊎_elim (λ t. t)
        (λ g. let q = gives_at_lem P g.0 x v.0 g.2 in absurd (r.0 g.0 g.1 g.3 q.place q.below q.names))
        (say.stays s x v.0 (omega arith) hx v.1 v.2) in
        let same = unique s x v.0 _ (omega arith) hx v.1 ih.0 before ih.1 in
        (rw r.1 ih.0, rw (r.1, ← same) v.2))
        (carried_at P.task fine (moves_in P bits s) (walked P.task (moves_in P bits) s) (length-walked P.task fine (moves_in P bits) s) x
        (A P.task) (omega arith))

    -- it gives x the value that the walk gives it, and no other
    told : (s x v : ℕ) → AtValue P s x v → τ (value_number P s x v) ≡ walked_values P (moves_in P bits) s x v
    told s x v h =
        let f = follows s x h.step_of h.variable_of_lem in
        same_truth _ _
        (λ t. eq-eqb _ _ (unique s x _ v h.step_of h.variable_of_lem f.0 h.value_of f.1 t))
        (λ t. let e : get_or (walked P.task (moves_in P bits) s) x 0 ≡ v = eqb-true _ _ t in rw e at f.1)

    -- a pair inside its domain holds in the walk where its variable is true
    held : (s : ℕ) (p : Pair) → s ≤ P.horizon → Inside P.task p → τ (pair_number P s p) ≡ true
        → eqb (get_or (walked P.task (moves_in P bits) s) p.variable 0) p.value ≡ true
    held s p hs i t =
        sym (told s p.variable p.value (record { step_of = hs; variable_of_lem = i.variable_below; value_of = i.value_below })) ∙ t

    pub run_of : Run P (moves_in P bits)
    unfolding applies reached
    run_of =
        record {
          all_apply = λ s a hs ha t.
              all_hold (walked P.task (moves_in P bits) s) (action P.task a).preconditions (λ i l.
              held s (pair (action P.task a).preconditions i) (omega arith) ((fine.actions_fine a ha).preconditions_fine.inside_each i l)
              (say.needs s a i hs ha l t));
          none_excluded = say.excluded;
          goal_reached =
              all_hold (walked P.task (moves_in P bits) P.horizon) P.task.goal (λ i l.
              held P.horizon (pair P.task.goal i) (omega arith) (fine.goal_fine.inside_each i l) (say.reaches i l));
        }

    -- no other assignment states the same moves
    pub is_its_run : bits ≡ assignment_by P (moves_in P bits)
    unfolding assignment_by
    is_its_run = laid_out_lem P (walked_values P (moves_in P bits)) (moves_in P bits) bits size told (λ s a h. refl)

  -- ---- from a run to its assignment

  module _ (agree : Agreeing P) (moves : Moves) (run : Run P moves) where
    -- the walk stays inside the domains
    stays_inside : (s x : ℕ) → x < n P.task → get_or (walked P.task moves s) x 0 < d P.task x
    unfolding walked
    stays_inside zero x hx = rw (start_at P.task fine x hx) (fine.start_inside x hx)
    stays_inside (suc s) x hx =
        ⊎_elim
        (λ r.
        let i = (fine.actions_fine r.action_of r.action_below).effects_fine.inside_each r.by.place r.by.below in
        rw (r.by.names, r.by.gives) at i.value_below)
        (λ r. rw r.1 (stays_inside s x hx))
        (carried_at P.task fine (moves s) (walked P.task moves s) (length-walked P.task fine moves s) x (A P.task) (omega arith))

    -- two chosen actions that set one variable set it alike
    alike : (s a b i j : ℕ) → s < P.horizon → a < A P.task → b < A P.task → moves s a ≡ true → moves s b ≡ true
        → i < length (action P.task a).effects → j < length (action P.task b).effects
        → (pair (action P.task a).effects i).variable ≡ (pair (action P.task b).effects j).variable
        → (pair (action P.task a).effects i).value ≡ (pair (action P.task b).effects j).value
    alike s a b i j hs ha hb t u hi hj e =
        ⊎_elim (λ l. apart a b i j l hb t u hi hj e)
        (λ l. ⊎_elim (λ r. sym (apart b a j i r ha u t hj hi (sym e))) (λ r. itself (omega arith)) (below_or b a))
        (below_or a b)
      where
        apart : (a b i j : ℕ) → a < b → b < A P.task → moves s a ≡ true → moves s b ≡ true
            → i < length (action P.task a).effects → j < length (action P.task b).effects
            → (pair (action P.task a).effects i).variable ≡ (pair (action P.task b).effects j).variable
            → (pair (action P.task a).effects i).value ≡ (pair (action P.task b).effects j).value
        apart a b i j l hb t u hi hj e =
            ⊎_elim (λ x. absurd (run.none_excluded s a b hs l hb x t u)) (λ x. agree a b l hb x i j hi hj e) (either (P.excludes a b))

        itself : a ≡ b → (pair (action P.task a).effects i).value ≡ (pair (action P.task b).effects j).value
        itself q =
            let hj' : j < length (action P.task a).effects = rw q hj in
            let e' : (pair (action P.task a).effects i).variable ≡ (pair (action P.task a).effects j).variable =
            e ∙ ap (λ c. (pair (action P.task c).effects j).variable) (sym q) in
            ap (λ m. (pair (action P.task a).effects m).value) (pairs_apart P.task _ (fine.actions_fine a ha).effects_fine i j hi hj' e')
            ∙ ap (λ c. (pair (action P.task c).effects j).value) q

    -- each effect of a chosen action holds at the next step
    takes_effect : (s a i : ℕ) → s < P.horizon → a < A P.task → moves s a ≡ true → i < length (action P.task a).effects
        → get_or (walked P.task moves (suc s)) (pair (action P.task a).effects i).variable 0 ≡ (pair (action P.task a).effects i).value
    unfolding walked
    takes_effect s a i hs ha t hi =
        ⊎_elim
        (λ r. sym r.by.gives ∙ alike s r.action_of a r.by.place i hs r.action_below ha r.is_chosen t r.by.below hi r.by.names)
        (λ r. absurd (r.0 a ha t i hi refl))
        (carried_at P.task fine (moves s) (walked P.task moves s) (length-walked P.task fine moves s)
        (pair (action P.task a).effects i).variable (A P.task) (omega arith))

    abbrev stated : ℕ → Bool
    stated v = get_or (assignment_by P moves) (v - 1) false

    value_stated : (s x v : ℕ) → AtValue P s x v → stated (value_number P s x v) ≡ walked_values P moves s x v
    unfolding assignment_by
    value_stated = layout_value P (walked_values P moves) moves

    action_stated : (s a : ℕ) → AtAction P s a → stated (action_number P s a) ≡ moves s a
    unfolding assignment_by
    action_stated = layout_action P (walked_values P moves) moves

    pair_stated : (s : ℕ) (p : Pair) → s ≤ P.horizon → Inside P.task p → eqb (get_or (walked P.task moves s) p.variable 0) p.value ≡ true
        → stated (pair_number P s p) ≡ true
    pair_stated s p hs i t =
        value_stated s p.variable p.value (record { step_of = hs; variable_of_lem = i.variable_below; value_of = i.value_below }) ∙ t

    is_chosen : (s a : ℕ) → s < P.horizon → a < A P.task → stated (action_number P s a) ≡ true → moves s a ≡ true
    is_chosen s a hs ha t = sym (action_stated s a (record { step_of = hs; action_of = ha })) ∙ t

    is_value : (s x v : ℕ) → AtValue P s x v → stated (value_number P s x v) ≡ true → get_or (walked P.task moves s) x 0 ≡ v
    is_value s x v h t = eqb-true _ _ (sym (value_stated s x v h) ∙ t)

    -- x = v at the next step was so before, or a chosen action gives it
    remains : (s x v : ℕ) → s < P.horizon → x < n P.task → v < d P.task x → get_or (walked P.task moves (suc s)) x 0 ≡ v
        → (get_or (walked P.task moves s) x 0 ≡ v) ⊎ ((a : ℕ) × (a < A P.task) × (gives P a x v ≡ true) × (moves s a ≡ true))
    unfolding walked
    remains s x v hs hx hv e =
        ⊎_elim
        (λ r.
        inr (
          r.action_of,
          r.action_below,
          at_gives P r.action_of x v (record { place = r.by.place; below = r.by.below; names = r.by.names; gives = r.by.gives ∙ e }),
          r.is_chosen,
        ))
        (λ r. inl (sym r.1 ∙ e))
        (carried_at P.task fine (moves s) (walked P.task moves s) (length-walked P.task fine moves s) x (A P.task) (omega arith))

    run_facts : Facts P stated
    unfolding applies reached walked
    run_facts =
        record {
          starts = λ x hx.
              value_stated 0 x _ (record { step_of = omega arith; variable_of_lem = hx; value_of = fine.start_inside x hx })
              ∙ eq-eqb _ _ (start_at P.task fine x hx);
          reaches = λ i l.
              pair_stated P.horizon _ (omega arith) (fine.goal_fine.inside_each i l)
              (each_holds (walked P.task moves P.horizon) P.task.goal run.goal_reached i l);
          some_value_lem = λ s x hs hx.
              let v = get_or (walked P.task moves s) x 0 in (
                v,
                stays_inside s x hx,
                value_stated s x v (record { step_of = omega arith; variable_of_lem = hx; value_of = stays_inside s x hx }) ∙ eq-eqb v v refl,
              );
          one_value = λ s x v w hs hx l hw t u.
              let ev = is_value s x v (record { step_of = omega arith; variable_of_lem = hx; value_of = omega arith }) t in
              let ew = is_value s x w (record { step_of = omega arith; variable_of_lem = hx; value_of = hw }) u in
              omega arith;
          needs = λ s a i hs ha hi t.
              pair_stated s _ (omega arith) ((fine.actions_fine a ha).preconditions_fine.inside_each i hi)
              (each_holds (walked P.task moves s) (action P.task a).preconditions (run.all_apply s a hs ha (is_chosen s a hs ha t)) i hi);
          causes = λ s a i hs ha hi t.
              pair_stated (suc s) _ (omega arith) ((fine.actions_fine a ha).effects_fine.inside_each i hi)
              (eq-eqb _ _ (takes_effect s a i hs ha (is_chosen s a hs ha t) hi));
          stays = λ s x v hs hx hv t.
              ⊎_elim
              (λ e. inl (value_stated s x v (record { step_of = omega arith; variable_of_lem = hx; value_of = hv }) ∙ eq-eqb _ _ e))
              (λ g. inr (g.0, g.1, g.2, action_stated s g.0 (record { step_of = hs; action_of = g.1 }) ∙ g.3))
              (remains s x v hs hx hv (is_value (suc s) x v (record { step_of = omega arith; variable_of_lem = hx; value_of = hv }) t));
          excluded = λ s a b hs l hb e t u.
              run.none_excluded s a b hs l hb e (is_chosen s a hs (omega arith) t) (is_chosen s b hs hb u);
        }

    pub run_satisfies : satisfies (assigned (assignment_by P moves)) (formula P) ≡ true
    run_satisfies = satisfied P stated run_facts
