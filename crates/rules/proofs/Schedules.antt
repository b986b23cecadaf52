-- Rule 1: a schedule of entries is a run with at most one move a step. With the pairing this is demand 3.
-- Assumes nothing.
use Rattle.std.specs.Prelude.{Ok}
use mathlib.Core.Path.{◌≡◌, refl, sym, ap, ◌∙◌}
use mathlib.Core.Logic.{⊎_elim}
use mathlib.Core.Bool.{Bool, true, false, cond, not}
use mathlib.Core.List.{List}
use Prim.Native.Nat.{ℕ, zero, suc, ◌-◌, ◌≤◌, ◌<◌}
use native.Mathlib.Omega.{arith}
use borrow.Author.Tests.{eqb-true, eq-eqb, ne_eqb, ltb-false, lt-ltb, le-ltb}
use lib.Dec.{eqb, ltb}
use lib.ListN.{length, get_or, take, get_or-eq_default}
use lib.Seq.{ext_get_or, length-take-le, get_or-take}
use Rattle.rules.specs.Counting.{first}
use Rattle.rules.specs.Answers.{judge}
use Rattle.rules.specs.Task.{Task, A, pair}
use Rattle.rules.specs.Problem.{Problem, problem}
use Rattle.rules.specs.Numbering.{action_number, N}
use Rattle.rules.specs.Families.{formula}
use Rattle.rules.specs.Truth.{Model, literal_true, satisfies, assigned}
use Rattle.rules.specs.Walk.{State, holds, applies, set_pairs, apply, reached, entry, entry_applies, after_entry, state_at, schedule_rules, CarriedOut}
use Rattle.rules.specs.Readings.{true_action, entry_of, schedule_of, value_bits, action_bits, assignment_of}
use Rattle.rules.proofs.Bools.{clash, not_false, below_or, same_truth}
use Rattle.rules.proofs.Counting.{first_at, first_before, first_ext, first_none, first_is, none_at, none_test, length-table, get_or-table, every_by, every_get_or}
use Rattle.rules.proofs.Judging.{judge_head, judge_tail, judge_cons, judge_nil}
use Rattle.rules.proofs.Valid.{WellFormed}
use Rattle.rules.proofs.LaidOut.{Moves, values_at, step_at, layout, length-layout, layout_ext, layout_action}
use Rattle.rules.proofs.Moves.{Chosen, carried, carried_none, carried_one, walked, walked_ext}
use Rattle.rules.proofs.Pairing.{Agreeing, Run, walked_values, assignment_by, moves_in, run_of, is_its_run, run_satisfies}

-- ---- entries as moves

-- the one move of an entry
abbrev pub entry_moves : List ℕ → Moves
entry_moves schedule s a = eqb (entry schedule s) (suc a)

-- past the last action there is nothing to carry out
apply_none : (T : Task) (a : ℕ) (σ : State) → A T ≤ a → apply T a σ ≡ σ
unfolding apply set_pairs
apply_none T a σ h = ap (λ b. set_pairs σ b.effects) (get_or-eq_default T.actions _ h)

move_of : (T : Task) (e : ℕ) (σ : State) → carried T (λ a. eqb e (suc a)) (A T) σ ≡ after_entry T e σ
move_of T zero σ = carried_none T _ (A T) σ (λ a l. ne_eqb 0 (suc a) (λ q. omega arith))
move_of T (suc a) σ =
    ⊎_elim
    (λ l. carried_one T _ (A T) σ a l (eq-eqb (suc a) (suc a) refl) (λ b l' ne. ne_eqb (suc a) (suc b) (λ q. ne (omega arith))))
    (λ l. carried_none T _ (A T) σ (λ b l'. ne_eqb (suc a) (suc b) (λ q. omega arith)) ∙ sym (apply_none T a σ l))
    (below_or a (A T))

-- the walk of entries is the walk of their moves
pub same_walk : (T : Task) (schedule : List ℕ) (s : ℕ) → walked T (entry_moves schedule) s ≡ state_at T schedule s
unfolding walked state_at
same_walk T schedule zero = refl
same_walk T schedule (suc s) =
    move_of T (entry schedule s) (walked T (entry_moves schedule) s) ∙ ap (after_entry T (entry schedule s)) (same_walk T schedule s)

-- ---- good schedules are runs

-- refusals 20 to 22 apply to just the schedules that cannot be carried out or miss the goal
pub carried_out : (T : Task) (k : ℕ) (schedule : List ℕ) → judge (schedule_rules T k schedule) ≡ Ok tt → CarriedOut T k schedule
unfolding schedule_rules reached
carried_out T k schedule h₂₀ =
    let h₂₁ = judge_tail _ _ h₂₀ in
    let h₂₂ = judge_tail _ _ h₂₁ in
    record {
      entries_known = λ s l. ltb-false _ _ (none_at k (λ s. ltb (A T) (entry schedule s)) (judge_head _ _ h₂₀) s l);
      each_applies = λ s l.
          not_false _ (none_at k (λ s. not (entry_applies T (entry schedule s) (state_at T schedule s))) (judge_head _ _ h₂₁) s l);
      reaches_goal =
          every_by (holds (state_at T schedule k)) T.goal _ (λ i l.
          not_false _ (none_at (length T.goal) (λ i. not (holds (state_at T schedule k) (pair T.goal i))) (judge_head _ _ h₂₂) i l));
    }

pub out_carried : (T : Task) (k : ℕ) (schedule : List ℕ) → CarriedOut T k schedule → judge (schedule_rules T k schedule) ≡ Ok tt
unfolding schedule_rules reached
out_carried T k schedule c =
    judge_cons _ _ (none_test k (λ s. ltb (A T) (entry schedule s)) (λ s l. le-ltb _ _ (c.entries_known s l)))
    (judge_cons _ _
    (none_test k (λ s. not (entry_applies T (entry schedule s) (state_at T schedule s))) (λ s l. ap not (c.each_applies s l)))
    (judge_cons _ _
    (none_test (length T.goal) (λ i. not (holds (state_at T schedule k) (pair T.goal i)))
    (λ i l. ap not (every_get_or (holds (state_at T schedule k)) T.goal _ c.reaches_goal i l)))
    judge_nil))

pub good_run : (T : Task) (k : ℕ) (schedule : List ℕ) → CarriedOut T k schedule → Run (problem T k) (entry_moves schedule)
good_run T k schedule c =
    record {
      all_apply = λ s a hs ha t.
          let e : entry schedule s ≡ suc a = eqb-true _ _ t in
          rw (same_walk T schedule s) (rw e at (c.each_applies s hs));
      none_excluded = λ s a b hs l hb x t u.
          let e : entry schedule s ≡ suc a = eqb-true _ _ t in
          let e' : entry schedule s ≡ suc b = eqb-true _ _ u in
          omega arith;
      goal_reached = rw (same_walk T schedule k) c.reaches_goal;
    }

-- under rule 1 no two actions agree to share a step
pub rule1_agreeing : (T : Task) (k : ℕ) → Agreeing (problem T k)
rule1_agreeing T k a b l hb x = clash refl x

-- ---- the assignment of a schedule

-- entry by entry it is the assignment of its moves
pub same_assignment : (T : Task) (k : ℕ) (schedule : List ℕ) → assignment_of (problem T k) schedule ≡ assignment_by (problem T k) (entry_moves schedule)
unfolding assignment_of assignment_by layout step_at values_at value_bits action_bits
same_assignment T k schedule =
    layout_ext (problem T k) (λ s x v. eqb (get_or (state_at T schedule s) x 0) v) (walked_values (problem T k) (entry_moves schedule)) _ _
    (λ s l. ap (value_bits T) (sym (same_walk T schedule s)))
    (λ s a l b. refl)

pub length-assignment : (T : Task) (k : ℕ) (schedule : List ℕ) → length (assignment_of (problem T k) schedule) ≡ N (problem T k)
unfolding assignment_by
length-assignment T k schedule = ap length (same_assignment T k schedule) ∙ length-layout (problem T k) _ _

-- equal moves have equal assignments
assignment_ext : (P : Problem) (c c' : Moves) → ((s a : ℕ) → s < P.horizon → a < A P.task → c s a ≡ c' s a) → assignment_by P c ≡ assignment_by P c'
unfolding assignment_by values_at value_bits
assignment_ext P c c' h =
    layout_ext P (walked_values P c) (walked_values P c') c c'
    (λ s l. ap (value_bits P.task) (walked_ext P.task c c' s (λ t a b q. h t a (omega arith) q)))
    h

-- ---- only the first k entries count

state_ext : (T : Task) (l l' : List ℕ) (k : ℕ) → ((s : ℕ) → s < k → entry l s ≡ entry l' s) → state_at T l k ≡ state_at T l' k
unfolding state_at
state_ext T l l' zero h = refl
state_ext T l l' (suc k) h = rw (state_ext T l l' k (λ s b. h s (omega arith)), h k (omega arith))

pub carried_ext : (T : Task) (k : ℕ) (l l' : List ℕ) → ((s : ℕ) → s < k → entry l s ≡ entry l' s) → CarriedOut T k l → CarriedOut T k l'
carried_ext T k l l' h c =
    record {
      entries_known = λ s b. rw (← h s b) (c.entries_known s b);
      each_applies = λ s b. rw (← h s b, ← state_ext T l l' s (λ t q. h t (omega arith))) (c.each_applies s b);
      reaches_goal = rw (← state_ext T l l' k h) c.reaches_goal;
    }

pub assignment_entries : (T : Task) (k : ℕ) (l l' : List ℕ) → ((s : ℕ) → s < k → entry l s ≡ entry l' s) → assignment_of (problem T k) l ≡ assignment_of (problem T k) l'
assignment_entries T k l l' h =
    same_assignment T k l
    ∙ assignment_ext (problem T k) (entry_moves l) (entry_moves l') (λ s a b q. ap (λ e. eqb e (suc a)) (h s b))
    ∙ sym (same_assignment T k l')

-- ---- the schedule of an assignment

-- of at most one chosen number, one more than the first is what tells it
one_chosen : (m : ℕ) (c : Chosen) → ((a b : ℕ) → a < b → b < m → c a ≡ true → c b ≡ true → ⊥)
    → (a : ℕ) → a < m → c a ≡ eqb (cond (ltb (first m c) m) (suc (first m c)) 0) (suc a)
one_chosen m c one a ha =
    same_truth _ _
    (λ t.
    ⊎_elim (λ l. clash t (first_before m c a l))
    (λ l.
    ⊎_elim (λ r. absurd (one (first m c) a r ha (first_at m c (omega arith)) t))
    (λ r.
    let e : first m c ≡ a = omega arith in
    rw e (rw (lt-ltb a m ha) (eq-eqb (suc a) (suc a) refl)))
    (below_or (first m c) a))
    (below_or a (first m c)))
    (λ t.
    ⊎_elim
    (λ l. let e : suc (first m c) ≡ suc a = eqb-true _ _ (rw (lt-ltb (first m c) m l) at t) in ap c (omega arith) ∙ first_at m c l)
    (λ l. let e : 0 ≡ suc a = eqb-true _ _ (rw (le-ltb (first m c) m l) at t) in absurd (omega arith))
    (below_or (first m c) m))

-- and back: the entry e is what its own move is read as
entry_back : (m e : ℕ) → e ≤ m → cond (ltb (first m (λ a. eqb e (suc a))) m) (suc (first m (λ a. eqb e (suc a)))) 0 ≡ e
entry_back m zero h =
    let f : first m (λ a. eqb 0 (suc a)) ≡ m = first_none m _ (λ a l. ne_eqb 0 (suc a) (λ q. omega arith)) in
    rw (le-ltb (first m (λ a. eqb 0 (suc a))) m (omega arith))
entry_back m (suc e) h =
    let f : first m (λ a. eqb (suc e) (suc a)) ≡ e =
    first_is m _ e h (eq-eqb (suc e) (suc e) refl) (λ a l. ne_eqb (suc e) (suc a) (λ q. omega arith)) in
    rw (f, lt-ltb e m h)

module _ (T : Task) (k : ℕ) where
  abbrev P : Problem
  P = problem T k

  pub entry_at : (M : Model) (s : ℕ) → s < k → entry (schedule_of P M) s ≡ entry_of P M s
  unfolding schedule_of
  entry_at M s l = get_or-table k (entry_of P M) 0 s l

  pub length-schedule : (M : Model) → length (schedule_of P M) ≡ k
  unfolding schedule_of
  length-schedule M = length-table k (entry_of P M)

  -- where no two actions are true at a step, the entries state just the assignment's moves
  same_moves : (bits : List Bool) → ((s a b : ℕ) → s < k → a < b → b < A T → moves_in P bits s a ≡ true → moves_in P bits s b ≡ true → ⊥)
      → (s a : ℕ) → s < k → a < A T → moves_in P bits s a ≡ entry_moves (schedule_of P (assigned bits)) s a
  unfolding entry_of true_action literal_true
  same_moves bits one s a hs ha =
      one_chosen (A T) (moves_in P bits s) (λ a b l hb. one s a b hs l hb) a ha ∙ ap (λ e. eqb e (suc a)) (sym (entry_at (assigned bits) s hs))

  entry_known : (M : Model) (s : ℕ) → entry_of P M s ≤ A T
  unfolding entry_of
  entry_known M s =
      ⊎_elim (λ l. rw (lt-ltb (true_action P M s) (A T) l) l) (λ l. rw (le-ltb (true_action P M s) (A T) l) (omega arith))
      (below_or (true_action P M s) (A T))

  -- ---- both readings, both directions

  module _ (fine : WellFormed T) where
    -- a satisfying assignment states a schedule that can be carried out and reaches the goal
    pub schedule_good : (bits : List Bool) → length bits ≡ N P → satisfies (assigned bits) (formula P) ≡ true → CarriedOut T k (schedule_of P (assigned bits))
    schedule_good bits size sat =
        let schedule = schedule_of P (assigned bits) in
        let run : Run P (moves_in P bits) = run_of P fine bits size sat in
        let moves = same_moves bits (λ s a b hs l hb. run.none_excluded s a b hs l hb refl) in
        let state : (s : ℕ) → s ≤ k → walked T (moves_in P bits) s ≡ state_at T schedule s =
        λ s l. walked_ext T (moves_in P bits) (entry_moves schedule) s (λ t a b q. moves t a (omega arith) q) ∙ same_walk T schedule s in
        let known : (s : ℕ) → s < k → entry schedule s ≤ A T = λ s l. rw (entry_at (assigned bits) s l) (entry_known (assigned bits) s) in
        record {
          entries_known = known;
          each_applies = λ s l.
              applying (entry schedule s) (known s l) (state_at T schedule s) (λ a e ha.
              rw (← state s (omega arith)) (run.all_apply s a l ha (moves s a l ha ∙ eq-eqb (entry schedule s) (suc a) e)));
          reaches_goal = rw (← state k (omega arith)) run.goal_reached;
        }
      where
        applying : (e : ℕ) → e ≤ A T → (σ : State) → ((a : ℕ) → e ≡ suc a → a < A T → applies T a σ ≡ true) → entry_applies T e σ ≡ true
        applying zero h σ f = refl
        applying (suc a) h σ f = f a refl h

    -- and is the assignment of that schedule
    pub assignment_back : (bits : List Bool) → length bits ≡ N P → satisfies (assigned bits) (formula P) ≡ true → assignment_of P (schedule_of P (assigned bits)) ≡ bits
    assignment_back bits size sat =
        let run : Run P (moves_in P bits) = run_of P fine bits size sat in
        same_assignment T k (schedule_of P (assigned bits))
        ∙ sym (assignment_ext P (moves_in P bits) (entry_moves (schedule_of P (assigned bits)))
        (same_moves bits (λ s a b hs l hb. run.none_excluded s a b hs l hb refl)))
        ∙ sym (is_its_run P fine bits size sat)

    -- the assignment of a schedule that can be carried out and reaches the goal is satisfying
    pub assignment_good : (schedule : List ℕ) → CarriedOut T k schedule → satisfies (assigned (assignment_of P schedule)) (formula P) ≡ true
    assignment_good schedule c =
        rw (same_assignment T k schedule) (run_satisfies P fine (rule1_agreeing T k) (entry_moves schedule) (good_run T k schedule c))

    -- and states that schedule, its first k entries
    pub schedule_back : (schedule : List ℕ) → k ≤ length schedule → CarriedOut T k schedule → schedule_of P (assigned (assignment_of P schedule)) ≡ take k schedule
    unfolding entry_of true_action literal_true assignment_by
    schedule_back schedule size c =
        let bits = assignment_of P schedule in
        let moves : (s a : ℕ) → s < k → a < A T → moves_in P bits s a ≡ entry_moves schedule s a =
        λ s a hs ha.
        ap (λ l. get_or l (action_number P s a - 1) false) (same_assignment T k schedule)
        ∙ layout_action P (walked_values P (entry_moves schedule)) (entry_moves schedule) s a (record { step_of = hs; action_of = ha }) in
        ext_get_or 0 (schedule_of P (assigned bits)) (take k schedule) (length-schedule (assigned bits) ∙ sym (length-take-le k schedule size)) (λ s l.
        let hs : s < k = omega (arith, length-schedule (assigned bits)) in
        entry_at (assigned bits) s hs
        ∙ ap (λ f. cond (ltb f (A T)) (suc f) 0) (first_ext (A T) (moves_in P bits s) (entry_moves schedule s) (λ a ha. moves s a hs ha))
        ∙ entry_back (A T) (entry schedule s) (c.entries_known s hs)
        ∙ sym (get_or-take k schedule s 0 hs))
