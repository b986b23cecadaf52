-- Verdicts on tasks beyond a limit: a body too long, and actions of which only the first ones before an action at fault are looked at.
-- Assumes nothing.
use Rattle.std.specs.Prelude.{Err}
use mathlib.Core.Path.{◌≡◌, refl, sym, ap, ◌∙◌}
use mathlib.Core.Logic.{◌⊎◌, ⊎_elim}
use mathlib.Core.Bool.{Bool, true, false, not, ◌&&◌}
use mathlib.Core.List.{List, [], ◌∷◌}
use Prim.Native.Nat.{ℕ, ◌≤◌, ◌<◌, max, min}
use native.Mathlib.Omega.{arith}
use borrow.Author.Tests.{lt-leb, le-leb, eq-eqb, ne_eqb}
use lib.Dec.{leb, eqb}
use lib.ListN.{length, take, length-take}
use lib.Seq.{get_or-take}
use Rattle.rules.specs.Counting.{first}
use Rattle.rules.specs.Limits.{max_variables, max_goals, max_actions, max_pairs}
use Rattle.rules.specs.Answers.{Rule, demand, judge, in_turn, Verdict}
use Rattle.rules.specs.Task.{Action, Task, n, A, action, pair_at_fault, size_at_fault, start_at_fault, list_in_order, action_in_order, action_at_fault, task_rules}
use Rattle.rules.specs.declared.Refusal.TheVariants.{BodyLength, ActionAtFault}
use Rattle.rules.proofs.Bools.{either, clash, not_false, below_or}
use Rattle.rules.proofs.Counting.{first_le, first_before, first_at, first_ext, first_is}
use Rattle.rules.proofs.Judging.{judge_passed, judge_refused, judge_nil}
use Rattle.rules.proofs.Valid.{ActionFine, action_fine}
use Rattle.bodies.proofs.Judged.{Fitting, lengths_fit}

-- ---- a body too long

-- more sizes or start values than there can be variables, or more goal pairs than there can be
abbrev pub TooLong : Task → Type 0
TooLong T = (max_variables < max (n T) (length T.start)) ⊎ (max_goals < length T.goal)

pub judged_long : (T : Task) → TooLong T → judge (task_rules true (λ a. true) T) ≡ Err BodyLength
unfolding task_rules
judged_long T h =
    ⊎_elim
    (λ t.
    let f : Fitting T = lengths_fit T t in
    ⊎_elim (λ l. absurd (omega (arith, f.variables_few, f.start_whole, l))) (λ l. absurd (omega (arith, f.goals_few, l))) h)
    (λ t. judge_refused _ _ t)
    (either _)

-- ---- the first actions alone

abbrev pub cut_to : ℕ → Task → Task
cut_to j T = record { sizes = T.sizes; start = T.start; goal = T.goal; actions = take j T.actions }

-- more pairs in a list than there can be
abbrev pub TooMany : Action → Type 0
TooMany a = max_pairs < max (length a.preconditions) (length a.effects)

many_fault : (T : Task) (a : ℕ) → TooMany (action T a) → action_at_fault (λ a. true) T a ≡ true
unfolding action_at_fault
many_fault T a h =
    ⊎_elim (λ t. t)
    (λ t.
    let f : ActionFine T (action T a) = action_fine T (action T a) (not_false _ t) in
    absurd (omega (arith, f.preconditions_few, f.effects_few, h)))
    (either (action_at_fault (λ a. true) T a))

-- a rule before rules that are judged in turn
judge_turn : (r : Rule) (rs qs : List Rule) (later : Verdict) → (r.holds ≡ true → in_turn (judge rs) later ≡ judge qs)
    → in_turn (judge (r ∷ rs)) later ≡ judge (r ∷ qs)
judge_turn r rs qs later h =
    ⊎_elim (λ t. ap (λ v. in_turn v later) (judge_passed r rs t) ∙ h t ∙ sym (judge_passed r qs t))
    (λ t. ap (λ v. in_turn v later) (judge_refused r rs t) ∙ sym (judge_refused r qs t))
    (either r.holds)

and_false : (a b : Bool) → b ≡ false → (a && b) ≡ false
and_false true b h = h
and_false false b h = refl

-- the rule for the actions
abbrev last_rule : Task → Rule
last_rule T =
    let bad : ℕ = first (A T) (action_at_fault (λ a. true) T) in
    demand (eqb bad (A T) && leb (A T) max_actions) (ActionAtFault (min max_actions bad))

module _ (T : Task) (j : ℕ) (below : j < A T) where
  abbrev fault : Task → ℕ → Bool
  fault = action_at_fault (λ a. true)

  cut_A : A (cut_to j T) ≡ j
  cut_A = omega (arith, length-take j T.actions)

  cut_fault : (a : ℕ) → a < j → fault (cut_to j T) a ≡ fault T a
  unfolding action_at_fault action_in_order list_in_order pair_at_fault
  cut_fault a l = ap (λ b. not (action_in_order T b)) (get_or-take j T.actions a (record { preconditions = []; effects = [] }) l)

  cut_first : first (A (cut_to j T)) (fault (cut_to j T)) ≡ first j (fault T)
  cut_first = rw cut_A (first_ext j (fault (cut_to j T)) (fault T) cut_fault)

  -- an action before j is at fault: it is the first of all
  cut_fault_before : first j (fault T) < j → first (A T) (fault T) ≡ first j (fault T)
  cut_fault_before l =
      first_is (A T) (fault T) (first j (fault T)) (omega arith) (first_at j (fault T) l) (first_before j (fault T))

  module _ (limit : j ≤ max_actions) (over : (j ≡ max_actions) ⊎ TooMany (action T j)) where
    -- none before j is: number j is at fault, or is one too many
    module _ (h : j ≤ first j (fault T)) where
      cut_later : j ≤ first (A T) (fault T)
      cut_later =
          ⊎_elim
          (λ l. clash (first_at (A T) (fault T) (omega arith)) (first_before j (fault T) (first (A T) (fault T)) (omega arith)))
          (λ l. l)
          (below_or (first (A T) (fault T)) j)

      cut_many : TooMany (action T j) → first (A T) (fault T) ≡ j
      cut_many many = first_is (A T) (fault T) j below (many_fault T j many) (λ i l. first_before j (fault T) i (omega arith))

      cut_refused : (eqb (first (A T) (fault T)) (A T) && leb (A T) max_actions) ≡ false
      cut_refused =
          ⊎_elim (λ e. and_false (eqb (first (A T) (fault T)) (A T)) (leb (A T) max_actions) (lt-leb (A T) max_actions (omega arith)))
          (λ many. rw (ne_eqb (first (A T) (fault T)) (A T) (λ e. absurd (omega (arith, cut_many many)))))
          over

      cut_number : min max_actions (first (A T) (fault T)) ≡ j
      cut_number = ⊎_elim (λ e. omega (arith, cut_later)) (λ many. omega (arith, cut_many many)) over

    cut_last : in_turn (judge (last_rule (cut_to j T) ∷ [])) (Err (ActionAtFault j)) ≡ judge (last_rule T ∷ [])
    cut_last =
        ⊎_elim
        (λ l.
        ap (λ v. in_turn v (Err (ActionAtFault j)))
        (judge_refused (last_rule (cut_to j T)) [] (rw (cut_first, cut_A, ne_eqb (first j (fault T)) j (λ e. absurd (omega arith)))))
        ∙ ap (λ i. Err (ActionAtFault (min max_actions i))) (cut_first ∙ sym (cut_fault_before l))
        ∙ sym (judge_refused (last_rule T) [] (rw (cut_fault_before l, ne_eqb (first j (fault T)) (A T) (λ e. absurd (omega arith))))))
        (λ l.
        let none : first j (fault T) ≡ j = omega (arith, first_le j (fault T)) in
        ap (λ v. in_turn v (Err (ActionAtFault j)))
        (judge_passed (last_rule (cut_to j T)) [] (rw (cut_first, cut_A, none, eq-eqb j j refl, le-leb j max_actions limit)) ∙ judge_nil)
        ∙ ap (λ i. Err (ActionAtFault i)) (sym (cut_number l))
        ∙ sym (judge_refused (last_rule T) [] (cut_refused l)))
        (below_or (first j (fault T)) j)

    pub judged_cut : judge (task_rules true (λ a. true) T) ≡ in_turn (judge (task_rules true (λ a. true) (cut_to j T))) (Err (ActionAtFault j))
    unfolding task_rules size_at_fault start_at_fault pair_at_fault
    judged_cut =
        let later : Verdict = Err (ActionAtFault j) in
        sym
        (judge_turn _ _ _ later (λ lengths.
        judge_turn _ _ _ later (λ sizes.
        judge_turn _ _ _ later (λ start.
        judge_turn _ _ _ later (λ goal. cut_last)))))
