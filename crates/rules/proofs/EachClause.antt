-- Something holds of every clause of the formula exactly if it holds of each family's clauses. Whatever is proved of all clauses goes through here.
-- Assumes nothing.
use mathlib.Core.Path.{◌≡◌, refl}
use mathlib.Core.Bool.{Bool, true}
use mathlib.Core.List.{[], ◌∷◌}
use Prim.Native.Nat.{ℕ, suc, ◌<◌}
use lib.Dec.{lit<}
use lib.ListN.{length, get_or}
use Rattle.rules.specs.Counting.{table, every}
use Rattle.rules.specs.Task.{n, d, A, start_value, pair, action}
use Rattle.rules.specs.Problem.{Problem}
use Rattle.rules.specs.Numbering.{value_number, action_number}
use Rattle.rules.specs.Families.{plus, minus, Clause, pair_number, supporters, family1, family2, family3, family4, family5, family6, family7, family8, families, formula}
use Rattle.rules.proofs.Bools.{and_both}
use Rattle.rules.proofs.Counting.{every_one, the_one, every_for_each, each_of, every_table, each_in_table, every_pair, each_pair, every_when, each_when, each_joined, every_joined}

module _ (P : Problem) (p : Clause → Bool) where
  pub record EachClause : Type 0 where
    pub in1 : (x : ℕ) → x < n P.task → p (plus (value_number P 0 x (start_value P.task x)) ∷ []) ≡ true
    pub in2 : (i : ℕ) → i < length P.task.goal → p (plus (pair_number P P.horizon (pair P.task.goal i)) ∷ []) ≡ true
    pub in3 : (s x : ℕ) → s < suc P.horizon → x < n P.task → p (table (d P.task x) (λ v. plus (value_number P s x v))) ≡ true
    pub in4 : (s x v w : ℕ) → s < suc P.horizon → x < n P.task → v < w → w < d P.task x
        → p (minus (value_number P s x v) ∷ minus (value_number P s x w) ∷ []) ≡ true
    pub in5 : (s a i : ℕ) → s < P.horizon → a < A P.task → i < length (action P.task a).preconditions
        → p (minus (action_number P s a) ∷ plus (pair_number P s (pair (action P.task a).preconditions i)) ∷ []) ≡ true
    pub in6 : (s a i : ℕ) → s < P.horizon → a < A P.task → i < length (action P.task a).effects
        → p (minus (action_number P s a) ∷ plus (pair_number P (suc s) (pair (action P.task a).effects i)) ∷ []) ≡ true
    pub in7 : (s x v : ℕ) → s < P.horizon → x < n P.task → v < d P.task x
        → p (minus (value_number P (suc s) x v) ∷ plus (value_number P s x v) ∷ supporters P s x v) ≡ true
    pub in8 : (s a b : ℕ) → s < P.horizon → a < b → b < A P.task → P.excludes a b ≡ true
        → p (minus (action_number P s a) ∷ minus (action_number P s b) ∷ []) ≡ true

  pub each_clause : every p (formula P) ≡ true → EachClause
  unfolding formula families family1 family2 family3 family4 family5 family6 family7 family8
  each_clause h =
      let family : (i : ℕ) → i < 8 → every p (get_or (families P) i []) ≡ true = each_joined p (families P) h in
      record {
        in1 = λ x hx. each_in_table p _ _ (family 0 (lit< tt)) x hx;
        in2 = λ i hi. each_in_table p _ _ (family 1 (lit< tt)) i hi;
        in3 = λ s x hs hx. each_in_table p _ _ (each_of p _ _ (family 2 (lit< tt)) s hs) x hx;
        in4 = λ s x v w hs hx l hw. the_one p _ (each_pair p _ _ (each_of p _ _ (each_of p _ _ (family 3 (lit< tt)) s hs) x hx) v w l hw);
        in5 = λ s a i hs ha hi. each_in_table p _ _ (each_of p _ _ (each_of p _ _ (family 4 (lit< tt)) s hs) a ha) i hi;
        in6 = λ s a i hs ha hi. each_in_table p _ _ (each_of p _ _ (each_of p _ _ (family 5 (lit< tt)) s hs) a ha) i hi;
        in7 = λ s x v hs hx hv. each_in_table p _ _ (each_of p _ _ (each_of p _ _ (family 6 (lit< tt)) s hs) x hx) v hv;
        in8 = λ s a b hs l hb e. the_one p _ (each_when p _ _ (each_pair p _ _ (each_of p _ _ (family 7 (lit< tt)) s hs) a b l hb) e);
      }

  pub every_clause : EachClause → every p (formula P) ≡ true
  unfolding every formula families family1 family2 family3 family4 family5 family6 family7 family8
  every_clause e =
      every_joined p (families P)
      (and_both _ _ (every_table p _ _ e.in1)
      (and_both _ _ (every_table p _ _ e.in2)
      (and_both _ _ (every_for_each p _ _ (λ s hs. every_table p _ _ (λ x hx. e.in3 s x hs hx)))
      (and_both _ _
      (every_for_each p _ _ (λ s hs. every_for_each p _ _ (λ x hx. every_pair p _ _ (λ v w l hw. every_one p _ (e.in4 s x v w hs hx l hw)))))
      (and_both _ _ (every_for_each p _ _ (λ s hs. every_for_each p _ _ (λ a ha. every_table p _ _ (λ i hi. e.in5 s a i hs ha hi))))
      (and_both _ _ (every_for_each p _ _ (λ s hs. every_for_each p _ _ (λ a ha. every_table p _ _ (λ i hi. e.in6 s a i hs ha hi))))
      (and_both _ _ (every_for_each p _ _ (λ s hs. every_for_each p _ _ (λ x hx. every_table p _ _ (λ v hv. e.in7 s x v hs hx hv))))
      (and_both _ _
      (every_for_each p _ _ (λ s hs. every_pair p _ _ (λ a b l hb. every_when p (P.excludes a b) _ (λ x. every_one p _ (e.in8 s a b hs l hb x)))))
      refl))))))))
