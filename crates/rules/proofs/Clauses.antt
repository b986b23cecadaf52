-- What it says of an assignment that each clause of a family is true, family by family, in both directions.
-- Assumes nothing.
use mathlib.Core.Path.{◌≡◌, refl, ap}
use mathlib.Core.Logic.{◌⊎◌, inl, inr, ⊎_elim}
use mathlib.Core.Bool.{Bool, true, false, not}
use mathlib.Core.List.{[], ◌∷◌}
use Prim.Native.Nat.{ℕ, suc, ◌<◌}
use lib.ListN.{length}
use Rattle.rules.specs.Counting.{table, when, any}
use Rattle.rules.specs.Task.{n, d, A, start_value, pair, action}
use Rattle.rules.specs.Problem.{Problem}
use Rattle.rules.specs.Numbering.{value_number, action_number}
use Rattle.rules.specs.Families.{Literal, plus, minus, Clause, pair_number, gives, supporters, formula}
use Rattle.rules.specs.Truth.{Model, literal_true, clause_true, satisfies}
use Rattle.rules.proofs.Bools.{either, clash, or_cases, or_left, or_right, not_true}
use Rattle.rules.proofs.Counting.{any_for_each, one_of}
use Rattle.rules.proofs.EachClause.{EachClause, each_clause, every_clause}

-- ---- clauses under any model

module _ (M : Model) where
  -- a clause of one literal, of two, or of positive literals is true by one of them
  pub the_one_literal : (l : Literal) → clause_true M (l ∷ []) ≡ true → literal_true M l ≡ true
  unfolding clause_true any
  the_one_literal l h = ⊎_elim (λ t. t) (λ t. clash t refl) (or_cases (literal_true M l) false h)

  pub one_of_two : (l m : Literal) → clause_true M (l ∷ m ∷ []) ≡ true → (literal_true M l ≡ true) ⊎ (literal_true M m ≡ true)
  unfolding clause_true any
  one_of_two l m h = ⊎_elim (λ t. inl t) (λ t. inr (the_one_literal m t)) (or_cases (literal_true M l) _ h)

  pub among : (m : ℕ) (f : ℕ → ℕ) → clause_true M (table m (λ i. plus (f i))) ≡ true → (i : ℕ) × (i < m) × (literal_true M (plus (f i)) ≡ true)
  unfolding clause_true
  among m f h =
      let r = one_of (literal_true M) m (λ i. plus (f i) ∷ []) h in
      (r.0, r.1, the_one_literal (plus (f r.0)) r.2)

-- ---- clauses under an assignment that gives every variable

abbrev pub complete : (ℕ → Bool) → Model
complete τ = record { given = λ v. true; is_true = τ }

module _ (τ : ℕ → Bool) where
  pub one_true : (v : ℕ) → clause_true (complete τ) (plus v ∷ []) ≡ true → τ v ≡ true
  unfolding literal_true
  one_true v h = the_one_literal (complete τ) (plus v) h

  pub true_one : (v : ℕ) → τ v ≡ true → clause_true (complete τ) (plus v ∷ []) ≡ true
  unfolding clause_true any literal_true
  true_one v h = or_left (τ v) false h

  -- a clause that begins with a negated variable says what follows where that variable is true
  pub implied : (v : ℕ) (c : Clause) → clause_true (complete τ) (minus v ∷ c) ≡ true → τ v ≡ true → clause_true (complete τ) c ≡ true
  unfolding clause_true any literal_true
  implied v c h t = ⊎_elim (λ f. clash t (not_true (τ v) f)) (λ r. r) (or_cases (not (τ v)) (any (literal_true (complete τ)) c) h)

  pub implies : (v : ℕ) (c : Clause) → (τ v ≡ true → clause_true (complete τ) c ≡ true) → clause_true (complete τ) (minus v ∷ c) ≡ true
  unfolding clause_true any literal_true
  implies v c h =
      ⊎_elim (λ t. or_right (not (τ v)) (any (literal_true (complete τ)) c) (h t))
      (λ t. or_left (not (τ v)) (any (literal_true (complete τ)) c) (ap not t))
      (either (τ v))

  -- the empty clause is false
  pub empty_false : {X : Type 0} → clause_true (complete τ) [] ≡ true → X
  unfolding clause_true any
  empty_false h = clash h refl

  pub true_among : (m : ℕ) (f : ℕ → ℕ) (i : ℕ) → i < m → τ (f i) ≡ true → clause_true (complete τ) (table m (λ i. plus (f i))) ≡ true
  unfolding clause_true literal_true any
  true_among m f i l h = any_for_each (literal_true (complete τ)) m (λ i. plus (f i) ∷ []) i l (or_left (τ (f i)) false h)

-- ---- a fact a family

module _ (P : Problem) where
  pub record Facts (τ : ℕ → Bool) : Type 0 where
    pub starts : (x : ℕ) → x < n P.task → τ (value_number P 0 x (start_value P.task x)) ≡ true
    pub reaches : (i : ℕ) → i < length P.task.goal → τ (pair_number P P.horizon (pair P.task.goal i)) ≡ true
    pub some_value_lem : (s x : ℕ) → s < suc P.horizon → x < n P.task → (v : ℕ) × (v < d P.task x) × (τ (value_number P s x v) ≡ true)
    pub one_value : (s x v w : ℕ) → s < suc P.horizon → x < n P.task → v < w → w < d P.task x
        → τ (value_number P s x v) ≡ true → τ (value_number P s x w) ≡ true → ⊥
    pub needs : (s a i : ℕ) → s < P.horizon → a < A P.task → i < length (action P.task a).preconditions
        → τ (action_number P s a) ≡ true → τ (pair_number P s (pair (action P.task a).preconditions i)) ≡ true
    pub causes : (s a i : ℕ) → s < P.horizon → a < A P.task → i < length (action P.task a).effects
        → τ (action_number P s a) ≡ true → τ (pair_number P (suc s) (pair (action P.task a).effects i)) ≡ true
    pub stays : (s x v : ℕ) → s < P.horizon → x < n P.task → v < d P.task x → τ (value_number P (suc s) x v) ≡ true
        → (τ (value_number P s x v) ≡ true) ⊎ ((a : ℕ) × (a < A P.task) × (gives P a x v ≡ true) × (τ (action_number P s a) ≡ true))
    pub excluded : (s a b : ℕ) → s < P.horizon → a < b → b < A P.task → P.excludes a b ≡ true
        → τ (action_number P s a) ≡ true → τ (action_number P s b) ≡ true → ⊥

  module _ (τ : ℕ → Bool) where
    abbrev is_true : Clause → Bool
    is_true = clause_true (complete τ)

    supported : (s x v : ℕ) → clause_true (complete τ) (plus (value_number P s x v) ∷ supporters P s x v) ≡ true
        → (τ (value_number P s x v) ≡ true) ⊎ ((a : ℕ) × (a < A P.task) × (gives P a x v ≡ true) × (τ (action_number P s a) ≡ true))
    unfolding clause_true any literal_true supporters
    supported s x v h =
        ⊎_elim (λ t. inl t)
        (λ t.
        let r = one_of (literal_true (complete τ)) (A P.task) (λ a. when (gives P a x v) (plus (action_number P s a) ∷ [])) t in
        let q = supporter (gives P r.0 x v) (action_number P s r.0) r.2 in
        inr (r.0, r.1, q.0, q.1))
        (or_cases (τ (value_number P s x v)) _ h)
      where
        supporter : (g : Bool) (v : ℕ) → any (literal_true (complete τ)) (when g (plus v ∷ [])) ≡ true → (g ≡ true) × (τ v ≡ true)
        supporter true v h = (refl, the_one_literal (complete τ) (plus v) h)
        supporter false v h = clash h refl

    support : (s x v : ℕ)
        → (τ (value_number P s x v) ≡ true) ⊎ ((a : ℕ) × (a < A P.task) × (gives P a x v ≡ true) × (τ (action_number P s a) ≡ true))
        → clause_true (complete τ) (plus (value_number P s x v) ∷ supporters P s x v) ≡ true
    unfolding clause_true any literal_true supporters
    support s x v (inl t) = or_left _ _ t
    support s x v (inr r) =
        or_right (τ (value_number P s x v)) _
        (any_for_each (literal_true (complete τ)) (A P.task) (λ a. when (gives P a x v) (plus (action_number P s a) ∷ [])) r.0 r.1
        (rw r.2 (or_left _ _ r.3)))

    pub facts : satisfies (complete τ) (formula P) ≡ true → Facts τ
    unfolding satisfies literal_true
    facts h =
        let c : EachClause P is_true = each_clause P is_true h in
        record {
          starts = λ x hx. one_true τ _ (c.in1 x hx);
          reaches = λ i hi. one_true τ _ (c.in2 i hi);
          some_value_lem = λ s x hs hx. among (complete τ) _ _ (c.in3 s x hs hx);
          one_value = λ s x v w hs hx l hw t u. empty_false τ (implied τ _ _ (implied τ _ _ (c.in4 s x v w hs hx l hw) t) u);
          needs = λ s a i hs ha hi t. one_true τ _ (implied τ _ _ (c.in5 s a i hs ha hi) t);
          causes = λ s a i hs ha hi t. one_true τ _ (implied τ _ _ (c.in6 s a i hs ha hi) t);
          stays = λ s x v hs hx hv t. supported s x v (implied τ _ _ (c.in7 s x v hs hx hv) t);
          excluded = λ s a b hs l hb e t u. empty_false τ (implied τ _ _ (implied τ _ _ (c.in8 s a b hs l hb e) t) u);
        }

    pub satisfied : Facts τ → satisfies (complete τ) (formula P) ≡ true
    unfolding satisfies
    satisfied f =
        every_clause P is_true
        (record {
          in1 = λ x hx. true_one τ _ (f.starts x hx);
          in2 = λ i hi. true_one τ _ (f.reaches i hi);
          in3 = λ s x hs hx. let r = f.some_value_lem s x hs hx in true_among τ _ _ r.0 r.1 r.2;
          in4 = λ s x v w hs hx l hw. implies τ _ _ (λ t. implies τ _ _ (λ u. absurd (f.one_value s x v w hs hx l hw t u)));
          in5 = λ s a i hs ha hi. implies τ _ _ (λ t. true_one τ _ (f.needs s a i hs ha hi t));
          in6 = λ s a i hs ha hi. implies τ _ _ (λ t. true_one τ _ (f.causes s a i hs ha hi t));
          in7 = λ s x v hs hx hv. implies τ _ _ (λ t. support s x v (f.stays s x v hs hx hv t));
          in8 = λ s a b hs l hb e. implies τ _ _ (λ t. implies τ _ _ (λ u. absurd (f.excluded s a b hs l hb e t u)));
        })
