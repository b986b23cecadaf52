-- Every literal of the formula names one of the variables 1 to N: a model that makes true there what another does satisfies the formula where that one
-- does, and models that agree there state one schedule.
-- Assumes nothing.
use mathlib.Core.Path.{◌≡◌, refl, sym, ap, ap₂, ◌∙◌}
use mathlib.Core.Logic.{⊎_elim}
use mathlib.Core.Bool.{Bool, true, cond, ◌&&◌}
use mathlib.Core.List.{List, [], ◌∷◌}
use Prim.Native.Nat.{ℕ, suc, ◌≤◌, ◌<◌}
use native.Mathlib.Omega.{arith}
use borrow.Author.Tests.{leb-true, le-leb}
use lib.Dec.{leb, ltb}
use Rattle.rules.specs.Counting.{every, any}
use Rattle.rules.specs.Task.{Pair, n, d, A}
use Rattle.rules.specs.Problem.{Problem}
use Rattle.rules.specs.Numbering.{value_number, action_number, N}
use Rattle.rules.specs.Families.{Literal, plus, minus, Clause, pair_number, gives, supporters, formula}
use Rattle.rules.specs.Truth.{Model, literal_true, clause_true, satisfies}
use Rattle.rules.specs.Readings.{true_action, entry_of, schedule_of}
use Rattle.rules.proofs.Bools.{and_left, and_right, and_both, or_cases, or_left, or_right, same_truth}
use Rattle.rules.proofs.Counting.{first_ext, for_each-ext, every_one, every_for_each, every_table, every_when}
use Rattle.rules.proofs.EachClause.{every_clause}
use Rattle.rules.proofs.Valid.{WellFormed, Inside}
use Rattle.rules.proofs.Numbering.{AtValue, AtAction, value_number-positive, value_number-within, action_number-positive, action_number-within}

abbrev pub variable_in : Literal → ℕ
variable_in (plus v) = v
variable_in (minus v) = v

module _ (P : Problem) where
  unfoldable pub is_within : Literal → Bool
  is_within l = leb 1 (variable_in l) && leb (variable_in l) (N P)

  within_low : (l : Literal) → is_within l ≡ true → 1 ≤ variable_in l
  unfolding is_within
  within_low l h = leb-true 1 (variable_in l) (and_left (leb 1 (variable_in l)) (leb (variable_in l) (N P)) h)

  within_up : (l : Literal) → is_within l ≡ true → variable_in l ≤ N P
  unfolding is_within
  within_up l h = leb-true (variable_in l) (N P) (and_right (leb 1 (variable_in l)) (leb (variable_in l) (N P)) h)

  value_in : (l : Literal) (s x v : ℕ) → variable_in l ≡ value_number P s x v → s ≤ P.horizon → x < n P.task → v < d P.task x → is_within l ≡ true
  unfolding is_within
  value_in l s x v e hs hx hv =
      let at : AtValue P s x v = record { step_of = hs; variable_of_lem = hx; value_of = hv } in
      rw e (and_both _ _ (le-leb _ _ (value_number-positive P s x v)) (le-leb _ _ (value_number-within P s x v at)))

  action_in_lem : (l : Literal) (s a : ℕ) → variable_in l ≡ action_number P s a → s < P.horizon → a < A P.task → is_within l ≡ true
  unfolding is_within
  action_in_lem l s a e hs ha =
      let at : AtAction P s a = record { step_of = hs; action_of = ha } in
      rw e (and_both _ _ (le-leb _ _ (action_number-positive P s a)) (le-leb _ _ (action_number-within P s a at)))

  abbrev pub all_within : Clause → Bool
  all_within = every is_within

  two : (l m : Literal) → is_within l ≡ true → is_within m ≡ true → all_within (l ∷ m ∷ []) ≡ true
  unfolding every
  two l m h k = and_both _ _ h (and_both _ _ k refl)

  two_and : (l m : Literal) (c : Clause) → is_within l ≡ true → is_within m ≡ true → all_within c ≡ true → all_within (l ∷ m ∷ c) ≡ true
  unfolding every
  two_and l m c h k r = and_both _ _ h (and_both _ _ k r)

  pub all_within_lem : WellFormed P.task → every all_within (formula P) ≡ true
  unfolding supporters
  all_within_lem fine =
      let pair_in : (l : Literal) (s : ℕ) (p : Pair) → variable_in l ≡ pair_number P s p → s ≤ P.horizon → Inside P.task p → is_within l ≡ true =
      λ l s p e hs i. value_in l s p.variable p.value e hs i.variable_below i.value_below in
      every_clause P all_within
      (record {
        in1 = λ x hx. every_one is_within _ (value_in (plus _) 0 x _ refl (omega arith) hx (fine.start_inside x hx));
        in2 = λ i hi. every_one is_within _ (pair_in (plus _) P.horizon _ refl (omega arith) (fine.goal_fine.inside_each i hi));
        in3 = λ s x hs hx. every_table is_within _ _ (λ v hv. value_in (plus _) s x v refl (omega arith) hx hv);
        in4 = λ s x v w hs hx l hw.
            two (minus _) (minus _) (value_in (minus _) s x v refl (omega arith) hx (omega arith)) (value_in (minus _) s x w refl (omega arith) hx hw);
        in5 = λ s a i hs ha hi.
            two (minus _) (plus _) (action_in_lem (minus _) s a refl hs ha)
            (pair_in (plus _) s _ refl (omega arith) ((fine.actions_fine a ha).preconditions_fine.inside_each i hi));
        in6 = λ s a i hs ha hi.
            two (minus _) (plus _) (action_in_lem (minus _) s a refl hs ha)
            (pair_in (plus _) (suc s) _ refl (omega arith) ((fine.actions_fine a ha).effects_fine.inside_each i hi));
        in7 = λ s x v hs hx hv.
            two_and (minus _) (plus _) _ (value_in (minus _) (suc s) x v refl (omega arith) hx hv) (value_in (plus _) s x v refl (omega arith) hx hv)
            (every_for_each is_within _ _ (λ a ha. every_when is_within (gives P a x v) _ (λ e. every_one is_within _ (action_in_lem (plus _) s a refl hs ha))));
        in8 = λ s a b hs l hb e. two (minus _) (minus _) (action_in_lem (minus _) s a refl hs (omega arith)) (action_in_lem (minus _) s b refl hs hb);
      })

  -- ---- models of which one makes every literal true that the other makes true

  abbrev pub SaysMore : Model → Model → Type 0
  SaysMore M M' = (l : Literal) → 1 ≤ variable_in l → variable_in l ≤ N P → literal_true M l ≡ true → literal_true M' l ≡ true

  module _ (M M' : Model) (more : SaysMore M M') where
    clause_more : (c : Clause) → all_within c ≡ true → clause_true M c ≡ true → clause_true M' c ≡ true
    unfolding every clause_true any
    clause_more [] h t = t
    clause_more (l ∷ c) h t =
        let here : is_within l ≡ true = and_left (is_within l) (all_within c) h in
        ⊎_elim (λ u. or_left (literal_true M' l) (any (literal_true M') c) (more l (within_low l here) (within_up l here) u))
        (λ u. or_right (literal_true M' l) (any (literal_true M') c) (clause_more c (and_right (is_within l) (all_within c) h) u))
        (or_cases (literal_true M l) (any (literal_true M) c) t)

    clauses_more : (cs : List Clause) → every all_within cs ≡ true → satisfies M cs ≡ true → satisfies M' cs ≡ true
    unfolding every satisfies
    clauses_more [] h t = t
    clauses_more (c ∷ cs) h t =
        and_both _ _ (clause_more c (and_left (all_within c) (every all_within cs) h) (and_left (clause_true M c) (every (clause_true M) cs) t))
        (clauses_more cs (and_right (all_within c) (every all_within cs) h) (and_right (clause_true M c) (every (clause_true M) cs) t))

    pub satisfied_more : WellFormed P.task → satisfies M (formula P) ≡ true → satisfies M' (formula P) ≡ true
    satisfied_more fine = clauses_more (formula P) (all_within_lem fine)

  -- models that make the same variables true state one schedule
  pub schedule_same : (M M' : Model) → ((v : ℕ) → 1 ≤ v → v ≤ N P → literal_true M (plus v) ≡ literal_true M' (plus v)) → schedule_of P M ≡ schedule_of P M'
  unfolding schedule_of entry_of true_action
  schedule_same M M' same =
      for_each-ext P.horizon _ _ (λ s hs.
      ap (λ f. cond (ltb f (A P.task)) (suc f) 0 ∷ [])
      (first_ext (A P.task) (λ a. literal_true M (plus (action_number P s a))) (λ a. literal_true M' (plus (action_number P s a))) (λ a ha.
      let at : AtAction P s a = record { step_of = hs; action_of = ha } in
      same (action_number P s a) (action_number-positive P s a) (action_number-within P s a at))))

  -- ---- models that agree on 1 to N

  -- the model that says one thing of all variables: a literal's truth hangs on what is said of its own
  abbrev saying : (given is_true : Bool) → Model
  saying given is_true = record { given = λ v. given; is_true = λ v. is_true }

  pub record Agree (M M' : Model) : Type 0 where
    pub given_alike : (v : ℕ) → 1 ≤ v → v ≤ N P → M.given v ≡ M'.given v
    pub true_alike : (v : ℕ) → 1 ≤ v → v ≤ N P → M.is_true v ≡ M'.is_true v

  module _ (M M' : Model) (agree : Agree M M') where
    literal_alike : (l : Literal) → 1 ≤ variable_in l → variable_in l ≤ N P → literal_true M l ≡ literal_true M' l
    unfolding literal_true
    literal_alike (plus v) low up = ap₂ (λ g t. literal_true (saying g t) (plus v)) (agree.given_alike v low up) (agree.true_alike v low up)
    literal_alike (minus v) low up = ap₂ (λ g t. literal_true (saying g t) (minus v)) (agree.given_alike v low up) (agree.true_alike v low up)

    pub satisfied_alike : WellFormed P.task → satisfies M (formula P) ≡ satisfies M' (formula P)
    satisfied_alike fine =
        same_truth _ _ (satisfied_more M M' (λ l low up t. sym (literal_alike l low up) ∙ t) fine)
        (satisfied_more M' M (λ l low up t. literal_alike l low up ∙ t) fine)

    pub schedule_alike : schedule_of P M ≡ schedule_of P M'
    schedule_alike = schedule_same M M' (λ v. literal_alike (plus v))
