-- The search through all clauses, way by way: an item, a step and a family are passed or hold the lowest unmet clause of all.
-- Assumes nothing.
use mathlib.Core.Path.{◌≡◌, refl, sym, ap, ◌∙◌}
use mathlib.Core.Bool.{Bool}
use mathlib.Core.List.{List}
use lib.ListN.{get_or}
use Prim.Native.Nat.{ℕ, suc, ◌+◌, ◌*◌, ◌≤◌, ◌<◌}
use native.Mathlib.Omega.{arith}
use native.Mathlib.Nat.{suc-mul, zero-mul}
use mir.Syntax.{w64}
use mir.Val.{Fits}
use Rattle.rules.specs.Counting.{first, sum_to}
use Rattle.rules.specs.Limits.{max_horizon}
use Rattle.rules.specs.Task.{Task}
use Rattle.rules.specs.Families.{C}
use Rattle.rules.specs.Rows.{Rows}
use Rattle.rules.specs.File.{task_of}
use Rattle.rules.specs.Calls.{problem_of}
use Rattle.rules.proofs.Counting.{first_le, first_before, first_at, first_is}
use Rattle.rules.proofs.Files.{accepted_well_formed}
use Rattle.rules.proofs.ByNumber.{clauses_before}
use Rattle.task.specs.Index.{Indexed}
use Rattle.checker.specs.Order.{is_unmet, steps_of, items_of, clauses_of, step_clauses, first_clause, Reached, Come, start_values, goal_pairs, two_actions}
use Rattle.task.specs.declared.family.Family.{Family}
use Rattle.task.specs.declared.family.Family.TheVariants.{StartValues, GoalPairs, TwoActions}
use Rattle.checker.proofs.Widths.{next_family, all_families, family_end, step_few, item_few, family_few, step_within, item_within}
use Rattle.task.specs.Families.{family_count, number_of_family, families_in_order}
use Rattle.task.proofs.Families.{family_at}

-- so many clauses it has
pub width_at : (file : List ℕ) (k f : ℕ) (g : Family) (w : ℕ) → f < family_count
    → w ≡ steps_of k (number_of_family (get_or families_in_order f g)) * step_clauses (task_of file) (number_of_family (get_or families_in_order f g)) → w ≡ steps_of k f * step_clauses (task_of file) f
width_at file k f g w l h = rw (family_at f g l) at h

-- ---- the lowest number up to a place

module _ (q : ℕ → Bool) where
  -- what is found there is the lowest however far one looks on
  further : (c m bound : ℕ) → c ≡ first m q → c < m → m ≤ bound → c ≡ first bound q
  further c m bound e l h =
      sym (first_is bound q c (omega arith) (ap q e ∙ first_at m q (omega arith)) (λ j b. first_before m q j (omega arith)))

  passed : (c m : ℕ) → c ≡ first m q → m ≤ c → first m q ≡ m
  passed c m e l = omega (arith, first_le m q)

module _ (file index : List ℕ) (rows : Rows) (k : ℕ) where
  abbrev T : Task
  T = task_of file

  abbrev q : ℕ → Bool
  q = is_unmet file k rows

  -- ---- one item, by its family

  module _ (g : Family) (s i at : ℕ) (c : Come file index rows k (number_of_family g) s i at) where
    pub come_same : (f : ℕ) → number_of_family g ≡ f → Come file index rows k f s i at
    come_same f e = rw e at c

    pub come_start : g ≡ StartValues → Come file index rows k start_values 0 i at
    unfolding steps_of
    come_start e =
        let z : s ≡ 0 = let l : s < 1 = (rw e at c).step in omega arith in
        rw z at (rw e at c)

    pub come_goal : g ≡ GoalPairs → Come file index rows k goal_pairs 0 i at
    unfolding steps_of
    come_goal e =
        let z : s ≡ 0 = let l : s < 1 = (rw e at c).step in omega arith in
        rw z at (rw e at c)

    pub come_actions : g ≡ TwoActions → Come file index rows k two_actions s 0 at
    unfolding items_of
    come_actions e =
        let z : i ≡ 0 = let l : i < 1 = (rw e at c).item in omega arith in
        rw z at (rw e at c)

  pub answer_same : (f g i at r : ℕ) → f ≡ g → r ≡ first (at + clauses_of T g i) q → r ≡ first (at + clauses_of T f i) q
  answer_same f g i at r e h = rw e h

  pub answer_actions : (f i at r : ℕ) → f ≡ 7 → r ≡ first (at + clauses_of T 7 0) q → r ≡ first (at + clauses_of T f i) q
  unfolding clauses_of
  answer_actions f i at r e h = rw e h

  -- ---- the items of a step

  module _ (f s i at : ℕ) (r : Reached file index rows k f s i at) (hf : f < family_count) (hs : s < steps_of k f) where
    pub come_here : (m : ℕ) → m ≡ items_of T f → i < m → Come file index rows k f s i at
    come_here m e l = record { reached = r; family = hf; step = hs; item = omega arith }

    pub item_there : (m : ℕ) → m ≡ items_of T f → i < m → i < items_of T f
    item_there m e l = omega arith

    module _ (m : ℕ) (e : m ≡ items_of T f) (l : i < m) (w : ℕ) (h : w ≡ clauses_of T f i) where
      pub item_fits : Fits w64 (at + w)
      item_fits =
          record {
            fits =
                omega (arith, item_few T (accepted_well_formed file r.indexed.accepted) k f r.low hf s i hs (omega arith), r.is);
          }

      module _ (c : ℕ) (g : c ≡ first (at + clauses_of T f i) q) where
        pub item_found : (start : ℕ) → start ≡ first_clause T k f s 0 → c < at + w → c ≡ first (start + step_clauses T f) q
        unfolding first_clause sum_to
        item_found start z b =
            further q c (at + clauses_of T f i) (start + step_clauses T f) g (omega arith)
            (omega (arith, item_within T f i (omega arith), r.is))

        pub item_passed : at + w ≤ c → Reached file index rows k f s (i + 1) (at + w)
        unfolding first_clause sum_to
        item_passed b =
            record {
              indexed = r.indexed;
              low = r.low;
              is = omega (arith, r.is, ap (λ i. sum_to i (clauses_of T f)) (one_more_lem i));
              none = let z : at + w ≡ at + clauses_of T f i = omega arith in ap (λ m. first m q) z ∙ passed q c (at + clauses_of T f i) g (omega arith) ∙ sym z;
            }
          where
            one_more_lem : (i : ℕ) → i + 1 ≡ suc i
            one_more_lem i = omega arith

    pub items_done : (m start : ℕ) → m ≡ items_of T f → i ≤ m → m ≤ i → start ≡ first_clause T k f s 0 → at ≡ first (start + step_clauses T f) q
    unfolding first_clause sum_to step_clauses
    items_done m start e l u z =
        let same : i ≡ items_of T f = omega arith in
        let y : at ≡ start + step_clauses T f = omega (arith, r.is, ap (λ i. sum_to i (clauses_of T f)) same) in
        sym r.none ∙ ap (λ m. first m q) y

  -- ---- the steps of a family

  module _ (f s at : ℕ) (r : Reached file index rows k f s 0 at) (hf : f < family_count) (m w : ℕ) (e : m ≡ steps_of k f) (h : w ≡ step_clauses T f) where
    pub step_there : s < m → s < steps_of k f
    step_there l = omega arith

    pub step_fits : s < m → Fits w64 (at + w)
    step_fits l =
        record {
          fits = omega (arith, step_few T (accepted_well_formed file r.indexed.accepted) k f r.low hf s (omega arith), r.is);
        }

    module _ (l : s < m) (c : ℕ) (g : c ≡ first (at + step_clauses T f) q) where
      pub step_found : (start : ℕ) → start ≡ first_clause T k f 0 0 → c < at + w → c ≡ first (start + steps_of k f * step_clauses T f) q
      unfolding first_clause sum_to
      step_found start z b =
          further q c (at + step_clauses T f) (start + steps_of k f * step_clauses T f) g (omega arith)
          (omega (arith, step_within T k f s (omega arith), zero-mul (step_clauses T f), r.is))

      pub step_passed : at + w ≤ c → Reached file index rows k f (s + 1) 0 (at + w)
      unfolding first_clause sum_to
      step_passed b =
          record {
            indexed = r.indexed;
            low = r.low;
            is = omega (arith, suc-mul s (step_clauses T f), ap (λ t. t * step_clauses T f) (one_more_lem s), r.is);
            none = let z : at + w ≡ at + step_clauses T f = omega arith in ap (λ m. first m q) z ∙ passed q c (at + step_clauses T f) g (omega arith) ∙ sym z;
          }
        where
          one_more_lem : (s : ℕ) → s + 1 ≡ suc s
          one_more_lem s = omega arith

    pub steps_done : (start : ℕ) → s ≤ m → m ≤ s → start ≡ first_clause T k f 0 0 → at ≡ first (start + steps_of k f * step_clauses T f) q
    unfolding first_clause sum_to
    steps_done start l u z =
        let same : s ≡ steps_of k f = omega arith in
        let y : at ≡ start + steps_of k f * step_clauses T f = omega (arith, r.is, ap (λ s. s * step_clauses T f) same, zero-mul (step_clauses T f)) in
        sym r.none ∙ ap (λ m. first m q) y

  -- ---- the families; the one at f has the number f

  module _ (f : ℕ) (g : Family) (l : f < family_count) where
    pub reached_at : (at : ℕ) → Reached file index rows k f 0 0 at → Reached file index rows k (number_of_family (get_or families_in_order f g)) 0 0 at
    reached_at at r = rw (family_at f g l) r

    pub lowest_at : (at c : ℕ) → c ≡ first (at + steps_of k (number_of_family (get_or families_in_order f g)) * step_clauses T (number_of_family (get_or families_in_order f g))) q
        → c ≡ first (at + steps_of k f * step_clauses T f) q
    lowest_at at c h = rw (family_at f g l) at h

  pub start_here : Indexed file index → k ≤ max_horizon → Reached file index rows k 0 0 0 0
  unfolding first_clause clauses_before sum_to first
  start_here ix h = record { indexed = ix; low = h; is = omega (arith, zero-mul (step_clauses T 0)); none = refl }

  module _ (f at : ℕ) (r : Reached file index rows k f 0 0 at) where
    at_family : at ≡ clauses_before T k f
    unfolding first_clause sum_to
    at_family = omega (arith, zero-mul (step_clauses T f), r.is)

    module _ (l : f < family_count) (w : ℕ) (h : w ≡ steps_of k f * step_clauses T f) where
      pub family_fits : Fits w64 (at + w)
      family_fits =
          record {
            fits = omega (arith, family_few T (accepted_well_formed file r.indexed.accepted) k f r.low l, at_family);
          }

      module _ (c : ℕ) (g : c ≡ first (at + steps_of k f * step_clauses T f) q) where
        pub family_found : c < at + w → c ≡ first (C (problem_of file k)) q
        unfolding problem_of
        family_found b =
            further q c (at + steps_of k f * step_clauses T f) (C (problem_of file k)) g (omega arith)
            (omega (arith, family_end T k f l, at_family))

        pub family_passed : at + w ≤ c → Reached file index rows k (f + 1) 0 0 (at + w)
        unfolding first_clause sum_to
        family_passed b =
            record {
              indexed = r.indexed;
              low = r.low;
              is = omega (arith, next_family T k f l, ap (clauses_before T k) (one_more_lem f), at_family, zero-mul (step_clauses T (f + 1)));
              none = let z : at + w ≡ at + steps_of k f * step_clauses T f = omega arith in ap (λ m. first m q) z ∙ passed q c (at + steps_of k f * step_clauses T f) g (omega arith) ∙ sym z;
            }
          where
            one_more_lem : (f : ℕ) → f + 1 ≡ suc f
            one_more_lem f = omega arith

    pub families_done : f ≤ family_count → family_count ≤ f → at ≡ first (C (problem_of file k)) q
    unfolding problem_of
    families_done l u =
        let same : f ≡ family_count = omega arith in
        let y : at ≡ C (problem_of file k) = at_family ∙ ap (clauses_before T k) same ∙ sym (all_families T k) in
        sym r.none ∙ ap (λ m. first m q) y

-- ---- a family's clauses are few

pub product_few : (file index : List ℕ) (k f a b : ℕ) → Indexed file index → k ≤ max_horizon → f < family_count → a ≡ steps_of k f → b ≡ step_clauses (task_of file) f → Fits w64 (a * b)
product_few file index k f a b ix h l e g =
    record {
      fits = rw (e, g) (omega (arith, family_few (task_of file) (accepted_well_formed file ix.accepted) k f h l));
    }

pub product_is : (file : List ℕ) (k f a b : ℕ) → a ≡ steps_of k f → b ≡ step_clauses (task_of file) f → a * b ≡ steps_of k f * step_clauses (task_of file) f
product_is file k f a b e g = rw (e, g) refl

-- ---- how many clauses there are, family by family

module _ (file : List ℕ) (k : ℕ) where
  pub count_yet : 0 ≡ clauses_before (task_of file) k 0
  unfolding clauses_before sum_to
  count_yet = refl

  module _ (f n w : ℕ) (e : n ≡ clauses_before (task_of file) k f) (h : w ≡ steps_of k f * step_clauses (task_of file) f) (l : f < family_count) where
    pub count_more : n + w ≡ clauses_before (task_of file) k (f + 1)
    count_more = omega (arith, next_family (task_of file) k f l, ap (clauses_before (task_of file) k) (one_more_lem f))
      where
        one_more_lem : (f : ℕ) → f + 1 ≡ suc f
        one_more_lem f = omega arith

    pub count_fits : (index : List ℕ) → Indexed file index → k ≤ max_horizon → Fits w64 (n + w)
    count_fits index ix low =
        record {
          fits = omega (arith, family_few (task_of file) (accepted_well_formed file ix.accepted) k f low l);
        }

  pub count_all : (f n : ℕ) → n ≡ clauses_before (task_of file) k f → f ≤ family_count → family_count ≤ f → n ≡ C (problem_of file k)
  unfolding problem_of
  count_all f n e l u =
      let same : f ≡ family_count = omega arith in e ∙ ap (clauses_before (task_of file) k) same ∙ sym (all_families (task_of file) k)
