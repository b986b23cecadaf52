-- The clauses: the eight families in order, and the formula that they are together.
-- Assumes nothing.
use Rattle.std.specs.Prelude.{ℕ, suc, Bool, ◌&&◌, List, [], ◌∷◌, eqb, ℤ, pos, neg_ℤ, length, get_or}
use Rattle.rules.specs.Counting.{for_each, table, for_pairs, when, any, joined}
use Rattle.rules.specs.Task.{Pair, Task, n, d, A, start_value, pair, action}
use Rattle.rules.specs.Problem.{Problem}
use Rattle.rules.specs.Numbering.{value_number, action_number}

-- a literal: a formula variable by its number, or its negation
pub data Literal : Type 0 where
  plus minus : ℕ → Literal

abbrev pub Clause : Type 0
Clause = List Literal

-- the signed number by which a solver knows a literal
abbrev pub signed : Literal → ℤ
signed (plus v) = pos v
signed (minus v) = neg_ℤ (pos v)

module _ (P : Problem) where
  abbrev T : Task
  T = P.task

  abbrev k : ℕ
  k = P.horizon

  -- pair p at step s, by its number
  abbrev pub pair_number : ℕ → Pair → ℕ
  pair_number s p = value_number P s p.variable p.value

  -- the start value at step 1
  unfoldable pub family1 : List Clause
  family1 = table (n T) (λ x. plus (value_number P 0 x (start_value T x)) ∷ [])

  -- each goal pair at step k + 1
  unfoldable pub family2 : List Clause
  family2 = table (length T.goal) (λ i. plus (pair_number k (pair T.goal i)) ∷ [])

  -- all values of x at a step
  abbrev pub family3_at : ℕ → List Clause
  family3_at s = table (n T) (λ x. table (d T x) (λ v. plus (value_number P s x v)))

  unfoldable pub family3 : List Clause
  family3 = for_each (suc k) family3_at

  -- not v, not w at a step, v < w
  unfoldable pub family4 : List Clause
  family4 =
      for_each (suc k) (λ s. for_each (n T) (λ x.
      for_pairs (d T x) (λ v w. (minus (value_number P s x v) ∷ minus (value_number P s x w) ∷ []) ∷ [])))

  -- not a at a step, or its precondition there
  unfoldable pub family5 : List Clause
  family5 =
      for_each k (λ s. for_each (A T) (λ a.
      table (length (action T a).preconditions) (λ i.
      minus (action_number P s a) ∷ plus (pair_number s (pair (action T a).preconditions i)) ∷ [])))

  -- not a at a step, or its effect at the next
  unfoldable pub family6 : List Clause
  family6 =
      for_each k (λ s. for_each (A T) (λ a.
      table (length (action T a).effects) (λ i.
      minus (action_number P s a) ∷ plus (pair_number (suc s) (pair (action T a).effects i)) ∷ [])))

  -- action a has the effect x = v
  abbrev pub gives : ℕ → ℕ → ℕ → Bool
  gives a x v = any (λ p. eqb p.variable x && eqb p.value v) (action T a).effects

  -- the actions with effect x = v at a step, rising
  unfoldable pub supporters : ℕ → ℕ → ℕ → List Literal
  supporters s x v = for_each (A T) (λ a. when (gives a x v) (plus (action_number P s a) ∷ []))

  -- not x = v at the next step, or x = v at this one, or an action that gives it
  unfoldable pub family7 : List Clause
  family7 =
      for_each k (λ s. for_each (n T) (λ x. table (d T x) (λ v.
      minus (value_number P (suc s) x v) ∷ plus (value_number P s x v) ∷ supporters s x v)))

  -- not a, not b at a step, a < b, where the two exclude each other
  unfoldable pub family8 : List Clause
  family8 =
      for_each k (λ s. for_pairs (A T) (λ a b.
      when (P.excludes a b) ((minus (action_number P s a) ∷ minus (action_number P s b) ∷ []) ∷ [])))

  unfoldable pub families : List (List Clause)
  families = family1 ∷ family2 ∷ family3 ∷ family4 ∷ family5 ∷ family6 ∷ family7 ∷ family8 ∷ []

  unfoldable pub formula : List Clause
  formula = joined families

  -- the number of clauses
  unfoldable pub C : ℕ
  C = length formula

  -- clause number c, from 0
  unfoldable pub clause : ℕ → Clause
  clause c = get_or formula c []
