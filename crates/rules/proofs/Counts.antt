-- The count table: how many clauses each family has, and that C is their sum.
-- Assumes nothing.
use mathlib.Core.Path.{◌≡◌, refl, sym, ap, ◌∙◌}
use mathlib.Core.Bool.{Bool, true, false}
use mathlib.Core.List.{List, [], map}
use Prim.Native.Nat.{ℕ, zero, suc, ◌+◌, ◌-◌, ◌*◌, ◌≤◌, ◌<◌}
use native.Mathlib.Omega.{arith}
use native.Mathlib.Nat.{mul-sub}
use lib.ListN.{length, get_or, length-map, get_or-map}
use Rattle.rules.specs.Counting.{sum_to, for_each, for_pairs, when, joined}
use Rattle.rules.specs.Task.{Task, n, d, S, A, action}
use Rattle.rules.specs.Problem.{Problem, problem}
use Rattle.rules.specs.Families.{family1, family2, family3, family4, family5, family6, family7, family8, families, formula, C}
use Rattle.rules.specs.Counts.{pairs_below, pairs_before, sum, count_table}
use Rattle.rules.proofs.Counting.{sum_to-ext, sum_to-const, sum_to-most, length-for_each, length-table, length-joined}

-- ---- pairs

pairs_doubled : (m i : ℕ) → i ≤ m → 2 * sum_to i (λ j. m - suc j) + i * suc i ≡ 2 * (i * m)
unfolding sum_to
pairs_doubled m zero h = omega arith
pairs_doubled m (suc i) h = omega (arith, pairs_doubled m i (omega arith))

-- where the pairs with the first number i start: each first number j before it has the m - suc j numbers above j
pub pairs_before_lem : (m i : ℕ) → i ≤ m → sum_to i (λ j. m - suc j) ≡ pairs_before m i
unfolding pairs_before
pairs_before_lem m i h =
    let e : 2 * m - i - 1 ≡ 2 * m - suc i = omega arith in
    rw e (omega (arith, pairs_doubled m i h, mul-sub i (2 * m) (suc i)))

pub pairs_all : (m : ℕ) → pairs_before m m ≡ pairs_below m
unfolding pairs_before
pairs_all m = let e : 2 * m - m - 1 ≡ m - 1 = omega arith in rw e

-- ---- lengths

module _ {X : Type 0} where
  -- the length of a nest by the lengths inside it
  pub length-each : (m : ℕ) (f : ℕ → List X) (w : ℕ → ℕ) → ((i : ℕ) → length (f i) ≡ w i) → length (for_each m f) ≡ sum_to m w
  length-each m f w h = length-for_each m f ∙ sum_to-ext m _ w (λ i l. h i)

  pub length-times : (m : ℕ) (f : ℕ → List X) (c : ℕ) → ((i : ℕ) → length (f i) ≡ c) → length (for_each m f) ≡ m * c
  length-times m f c h = length-each m f (λ i. c) h ∙ sum_to-const m c

  pub length_most : (m c : ℕ) (f : ℕ → List X) → ((i : ℕ) → i < m → length (f i) ≤ c) → length (for_each m f) ≤ m * c
  length_most m c f h = omega (arith, length-for_each m f, sum_to-most m c (λ i. length (f i)) h)

  -- one element a pair
  pub length_pairs : (m : ℕ) (f : ℕ → ℕ → List X) → ((i j : ℕ) → length (f i j) ≡ 1) → length (for_pairs m f) ≡ pairs_below m
  unfolding for_pairs
  length_pairs m f h =
      length-each m (λ i. for_each (m - suc i) (λ j. f i (suc i + j))) (λ i. m - suc i)
      (λ i. length-times (m - suc i) (λ j. f i (suc i + j)) 1 (λ j. h i (suc i + j)) ∙ omega arith)
      ∙ pairs_before_lem m m (omega arith)
      ∙ pairs_all m

  pub length-when : (b : Bool) (l : List X) → length (when b l) ≤ length l
  length-when true l = omega arith
  length-when false l = omega arith

  pub length-all : (ls : List (List X)) → length (joined ls) ≡ sum (map length ls)
  length-all ls =
      length-joined ls
      ∙ sum_to-ext (length ls) _ (λ i. get_or (map length ls) i 0) (λ i l. sym (get_or-map length ls i []))
      ∙ ap (λ m. sum_to m (λ i. get_or (map length ls) i 0)) (sym (length-map ls length))

-- ---- the families

module _ (P : Problem) where
  pub count1 : length (family1 P) ≡ n P.task
  unfolding family1
  count1 = length-table _ _

  pub count2 : length (family2 P) ≡ length P.task.goal
  unfolding family2
  count2 = length-table _ _

  pub count3 : length (family3 P) ≡ suc P.horizon * n P.task
  unfolding family3
  count3 = length-times _ _ _ (λ s. length-table _ _)

  pub count4 : length (family4 P) ≡ suc P.horizon * sum_to (n P.task) (λ x. pairs_below (d P.task x))
  unfolding family4
  count4 = length-times _ _ _ (λ s. length-each _ _ _ (λ x. length_pairs _ _ (λ v w. refl)))

  pub count5 : length (family5 P) ≡ P.horizon * sum_to (A P.task) (λ a. length (action P.task a).preconditions)
  unfolding family5
  count5 = length-times _ _ _ (λ s. length-each _ _ _ (λ a. length-table _ _))

  pub count6 : length (family6 P) ≡ P.horizon * sum_to (A P.task) (λ a. length (action P.task a).effects)
  unfolding family6
  count6 = length-times _ _ _ (λ s. length-each _ _ _ (λ a. length-table _ _))

  pub count7 : length (family7 P) ≡ P.horizon * S P.task
  unfolding family7
  count7 = length-times _ _ _ (λ s. length-each _ _ _ (λ x. length-table _ _))

-- rule 1: every two actions exclude each other
pub count8 : (T : Task) (k : ℕ) → length (family8 (problem T k)) ≡ k * pairs_below (A T)
unfolding family8
count8 T k = length-times _ _ _ (λ s. length_pairs _ _ (λ a b. refl))

pub counts : (T : Task) (k : ℕ) → map length (families (problem T k)) ≡ count_table T k
unfolding families count_table
counts T k =
    let P : Problem = problem T k in
    rw (count1 P, count2 P, count3 P, count4 P, count5 P, count6 P, count7 P, count8 T k)

pub C-is : (T : Task) (k : ℕ) → C (problem T k) ≡ sum (count_table T k)
unfolding C formula
C-is T k = length-all (families (problem T k)) ∙ ap sum (counts T k)
