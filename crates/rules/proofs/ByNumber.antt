-- A clause by its number: the number of clauses before its family, and its place there, by step, variable, value, action or pair.
-- Assumes nothing.
use mathlib.Core.Path.{◌≡◌, refl, sym, ap, ◌∙◌}
use mathlib.Core.List.{[], ◌∷◌, map}
use Prim.Native.Nat.{ℕ, suc, ◌+◌, ◌*◌, ◌≤◌, ◌<◌}
use native.Mathlib.Omega.{arith}
use lib.Dec.{lit≤}
use lib.ListN.{length, get_or, take, get_or-map}
use lib.Seq.{get_or-take}
use Rattle.rules.specs.Counting.{sum_to, table}
use Rattle.rules.specs.Task.{Task, n, d, off, S, A, start_value, pair, action}
use Rattle.rules.specs.Problem.{Problem, problem}
use Rattle.rules.specs.Numbering.{value_number, action_number}
use Rattle.rules.specs.Families.{plus, minus, pair_number, supporters, family1, family2, family3, family4, family5, family6, family7, family8, families, formula, C, clause}
use Rattle.rules.specs.Counts.{pairs_below, count_table}
unfoldable pub use Rattle.rules.specs.Counts.{clauses_before}
use Rattle.rules.proofs.Counting.{sum_to-ext, length-table, get_or-table}
use Rattle.rules.proofs.Counts.{length_pairs, count1, count2, count3, count4, count5, count6, count7, count8, C-is}
use Rattle.rules.proofs.Places.{within_rows, within_steps, get_or-joined, get_or-times, get_or-steps}
use Rattle.rules.proofs.Pairs.{PairAt, pair_within, get_or-pairs}

-- ---- families by their counts

-- where each family starts, by the one before it, and where the last ends
pub record Starts (T : Task) (k : ℕ) : Type 0 where
  pub start1 : clauses_before T k 0 ≡ 0
  pub start2 : clauses_before T k 1 ≡ clauses_before T k 0 + n T
  pub start3 : clauses_before T k 2 ≡ clauses_before T k 1 + length T.goal
  pub start4 : clauses_before T k 3 ≡ clauses_before T k 2 + suc k * n T
  pub start5 : clauses_before T k 4 ≡ clauses_before T k 3 + suc k * sum_to (n T) (λ x. pairs_below (d T x))
  pub start6 : clauses_before T k 5 ≡ clauses_before T k 4 + k * sum_to (A T) (λ a. length (action T a).preconditions)
  pub start7 : clauses_before T k 6 ≡ clauses_before T k 5 + k * sum_to (A T) (λ a. length (action T a).effects)
  pub start8 : clauses_before T k 7 ≡ clauses_before T k 6 + k * S T
  pub end : C (problem T k) ≡ clauses_before T k 7 + k * pairs_below (A T)

pub starts : (T : Task) (k : ℕ) → Starts T k
unfolding clauses_before sum_to count_table
starts T k =
    record {
      start1 = refl;
      start2 = refl;
      start3 = refl;
      start4 = refl;
      start5 = refl;
      start6 = refl;
      start7 = refl;
      start8 = refl;
      end = C-is T k;
    }

module _ (P : Problem) where
  abbrev T : Task
  T = P.task

  abbrev k : ℕ
  k = P.horizon

  -- under any rule the first seven families have the counts of the table
  first_counts : take 7 (map length (families P)) ≡ take 7 (count_table T k)
  unfolding families count_table
  first_counts = rw (count1 P, count2 P, count3 P, count4 P, count5 P, count6 P, count7 P)

  before_families : (f : ℕ) → f ≤ 7 → sum_to f (λ i. length (get_or (families P) i [])) ≡ clauses_before T k f
  unfolding clauses_before
  before_families f h =
      sum_to-ext f _ _ (λ i l.
      sym (get_or-map length (families P) i [])
      ∙ sym (get_or-take 7 (map length (families P)) i 0 (omega arith))
      ∙ ap (λ cs. get_or cs i 0) first_counts
      ∙ get_or-take 7 (count_table T k) i 0 (omega arith))

  -- clause r of family f, f from 0
  pub clause_in : (c f r : ℕ) → f ≤ 7 → r < length (get_or (families P) f []) → c ≡ clauses_before T k f + r → clause P c ≡ get_or (get_or (families P) f []) r []
  unfolding clause formula
  clause_in c f r h l e =
      ap (λ c. get_or (formula P) c []) (e ∙ ap (λ before. before + r) (sym (before_families f h)))
      ∙ get_or-joined (families P) [] f r l

  -- ---- family by family: the clause's number, by its place in the order of the table, and the clause

  pub clause1 : (c x : ℕ) → x < n T → c ≡ clauses_before T k 0 + x → clause P c ≡ plus (value_number P 0 x (start_value T x)) ∷ []
  unfolding families family1
  clause1 c x hx e = clause_in c 0 x (lit≤ tt) (rw (count1 P) hx) e ∙ get_or-table _ _ _ x hx

  pub clause2 : (c i : ℕ) → i < length T.goal → c ≡ clauses_before T k 1 + i → clause P c ≡ plus (pair_number P k (pair T.goal i)) ∷ []
  unfolding families family2
  clause2 c i hi e = clause_in c 1 i (lit≤ tt) (rw (count2 P) hi) e ∙ get_or-table _ _ _ i hi

  pub clause3 : (c s x : ℕ) → s < suc k → x < n T → c ≡ clauses_before T k 2 + (s * n T + x)
      → clause P c ≡ table (d T x) (λ v. plus (value_number P s x v))
  unfolding families family3
  clause3 c s x hs hx e =
      clause_in c 2 (s * n T + x) (lit≤ tt) (rw (count3 P) (within_rows (suc k) (n T) s x hs hx)) e
      ∙ get_or-times _ _ _ (λ s. length-table _ _) _ s x hs hx
      ∙ get_or-table _ _ _ x hx

  -- the pairs of the values of x stand behind those of the variables before it
  pub clause4 : (c s x r v w : ℕ) → s < suc k → x < n T → PairAt (d T x) r v w
      → c ≡ clauses_before T k 3 + (s * sum_to (n T) (λ x. pairs_below (d T x)) + (sum_to x (λ x. pairs_below (d T x)) + r))
      → clause P c ≡ minus (value_number P s x v) ∷ minus (value_number P s x w) ∷ []
  unfolding families family4
  clause4 c s x r v w hs hx p e =
      let hr : r < pairs_below (d T x) = pair_within (d T x) r v w p in
      clause_in c 3 _ (lit≤ tt) (rw (count4 P) (within_steps (suc k) (n T) (λ x. pairs_below (d T x)) s x r hs hx hr)) e
      ∙ get_or-steps _ _ _ (λ x. pairs_below (d T x)) (λ s x. length_pairs _ _ (λ v w. refl)) _ s x r hs hx hr
      ∙ get_or-pairs (d T x) _ _ r v w p

  pub clause5 : (c s a i : ℕ) → s < k → a < A T → i < length (action T a).preconditions
      → c ≡ clauses_before T k 4 + (s * sum_to (A T) (λ a. length (action T a).preconditions) + (sum_to a (λ a. length (action T a).preconditions) + i))
      → clause P c ≡ minus (action_number P s a) ∷ plus (pair_number P s (pair (action T a).preconditions i)) ∷ []
  unfolding families family5
  clause5 c s a i hs ha hi e =
      clause_in c 4 _ (lit≤ tt) (rw (count5 P) (within_steps k (A T) (λ a. length (action T a).preconditions) s a i hs ha hi)) e
      ∙ get_or-steps _ _ _ _ (λ s a. length-table _ _) _ s a i hs ha hi
      ∙ get_or-table _ _ _ i hi

  pub clause6 : (c s a i : ℕ) → s < k → a < A T → i < length (action T a).effects
      → c ≡ clauses_before T k 5 + (s * sum_to (A T) (λ a. length (action T a).effects) + (sum_to a (λ a. length (action T a).effects) + i))
      → clause P c ≡ minus (action_number P s a) ∷ plus (pair_number P (suc s) (pair (action T a).effects i)) ∷ []
  unfolding families family6
  clause6 c s a i hs ha hi e =
      clause_in c 5 _ (lit≤ tt) (rw (count6 P) (within_steps k (A T) (λ a. length (action T a).effects) s a i hs ha hi)) e
      ∙ get_or-steps _ _ _ _ (λ s a. length-table _ _) _ s a i hs ha hi
      ∙ get_or-table _ _ _ i hi

  pub clause7 : (c s x v : ℕ) → s < k → x < n T → v < d T x → c ≡ clauses_before T k 6 + (s * S T + (off T x + v))
      → clause P c ≡ minus (value_number P (suc s) x v) ∷ plus (value_number P s x v) ∷ supporters P s x v
  unfolding families family7
  clause7 c s x v hs hx hv e =
      clause_in c 6 (s * S T + (off T x + v)) (lit≤ tt) (rw (count7 P) (within_steps k (n T) (d T) s x v hs hx hv)) e
      ∙ get_or-steps _ _ _ _ (λ s x. length-table _ _) _ s x v hs hx hv
      ∙ get_or-table _ _ _ v hv

-- rule 1: every two actions exclude each other
pub clause8 : (T : Task) (k c s r a b : ℕ) → s < k → PairAt (A T) r a b
    → c ≡ clauses_before T k 7 + (s * pairs_below (A T) + r)
    → clause (problem T k) c ≡ minus (action_number (problem T k) s a) ∷ minus (action_number (problem T k) s b) ∷ []
unfolding families family8
clause8 T k c s r a b hs p e =
    let hr : r < pairs_below (A T) = pair_within (A T) r a b p in
    clause_in (problem T k) c 7 _ (lit≤ tt) (rw (count8 T k) (within_rows k (pairs_below (A T)) s r hs hr)) e
    ∙ get_or-times _ _ _ (λ s. length_pairs _ _ (λ a b. refl)) _ s r hs hr
    ∙ get_or-pairs (A T) _ _ r a b p
