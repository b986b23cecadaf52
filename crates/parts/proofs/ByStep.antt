-- The lines of places that follow each other in a step are a run.
-- Assumes nothing.
use mathlib.Core.Path.{◌≡◌, refl, sym, ap, ◌∙◌}
use mathlib.Core.List.{List, [], ◌∷◌}
use Prim.Native.Nat.{ℕ, suc, ◌+◌, ◌-◌, ◌*◌, ◌/◌, ◌≤◌, ◌<◌, min}
use native.Mathlib.Omega.{arith}
use lib.ListN.{length}
use Rattle.rules.specs.Limits.{max_horizon, max_actions, max_n}
use Rattle.rules.specs.Counting.{sum_to}
use Rattle.rules.specs.Counts.{pairs_below, number_of_pair}
use Rattle.rules.specs.Task.{Task, n, d, A}
use Rattle.rules.specs.Problem.{Problem, problem}
use Rattle.rules.specs.Numbering.{value_number, action_number}
use Rattle.rules.specs.Families.{C, clause, minus}
use Rattle.rules.specs.Text.{clause_line}
use Rattle.rules.specs.File.{task_of}
use Rattle.rules.specs.Calls.{problem_of}
use Rattle.rules.proofs.Counting.{for_each-ext}
use Rattle.rules.proofs.Pairs.{PairAt, pair_exists, pair_within}
use Rattle.rules.proofs.Places.{within_rows, within_steps}
use Rattle.rules.proofs.ByNumber.{clauses_before, starts, clause4, clause8}
use Rattle.rules.proofs.Numbering.{value_number-within, action_number-within}
use Rattle.rules.proofs.Bounds.{N-bound}
use Rattle.rules.proofs.Valid.{WellFormed}
use Rattle.rules.proofs.Files.{accepted_well_formed}
use Rattle.task.specs.Index.{Indexed, value_pairs_before}
use Rattle.digits.specs.Over.{Wrote}
use Rattle.formula.specs.declared.place.Place.TheVariants.{TwoValues, TwoActions}
use Rattle.formula.specs.InFamily.{width_of, number_in, place_number}
use Rattle.exclusions.specs.Exclusions.{exclusion_text, exclusion_line, exclusion_lines, pair_room}
use Rattle.exclusions.proofs.ByPair.{pair_line}
use Rattle.parts.specs.Runs.{run, PutPart, PutPairs}

-- ---- some pairs

module _ (count i j : ℕ) (hi : i < j) (hj : j < count) where
  pair_of : PairAt count (number_of_pair count i j) i j
  pair_of = record { rising = hi; below = hj; is = refl }

  pub number_below : number_of_pair count i j < pairs_below count
  number_below = pair_within count (number_of_pair count i j) i j pair_of

-- as many as are left and as there is room for
module _ (count i j all number left at room lines : ℕ) (hi : i < j) (hj : j < count) (ea : all ≡ pairs_below count) (en : PairAt count number i j) where
  pub pairs_left : number ≤ all
  pairs_left = omega (arith, number_below count i j hi hj)

  module _ (el : left ≡ all - number) (em : lines ≡ min left ((room - at) / pair_room)) where
    pub lines_below : number_of_pair count i j + lines ≤ pairs_below count
    lines_below = omega (arith, number_below count i j hi hj)

    pub lines_fit : at ≤ room → at + pair_room * lines ≤ room
    lines_fit h = omega arith

    lines_some : at + pair_room ≤ room → 1 ≤ lines
    lines_some h = omega (arith, number_below count i j hi hj)

    pub pairs_part : (base end : ℕ) (before after : List ℕ) → room ≡ length before → at + pair_room ≤ room
        → Wrote before at (exclusion_lines base count (number_of_pair count i j) lines) after end → end ≤ at + pair_room * lines
        → PutPairs base count i j before at lines after end
    pairs_part base end before after er h w l =
        record { wrote = w; some = lines_some h; up_to = lines_below; within = omega (arith, lines_fit (omega arith)) }

-- ---- the clauses of a step

-- a run that ends with a step or before ends with its family or before
below_width : (q lines w : ℕ) → 1 ≤ lines → q + lines ≤ w → q + lines - 1 < w
below_width q lines w some h = omega arith

below_end : (before rows q lines all c : ℕ) → 1 ≤ lines → rows + (q + lines - 1) < all → before + all ≤ c → before + (rows + q) + lines ≤ c
below_end before rows q lines all c some h e = omega arith

module _ (file : List ℕ) (k s : ℕ) where
  abbrev T : Task
  T = task_of file

  abbrev P : Problem
  P = problem T k

  abbrev Q : Problem
  Q = problem_of file k

  module _ (index : List ℕ) (ix : Indexed file index) (hk : k ≤ max_horizon) where
    few : WellFormed T
    few = accepted_well_formed file ix.accepted

    pub actions_few : (count : ℕ) → count ≡ A T → count ≤ max_actions
    actions_few count e = omega (arith, few.actions_few)

    pub values_few : (x count : ℕ) → x < n T → count ≡ d T x → count ≤ max_actions
    values_few x count h e = omega (arith, few.domain_small x h)

    pub actions_most : (base m count b : ℕ) → base ≡ m → m ≡ action_number P s 0 → count ≡ A T → s < k → b < A T → base + count ≤ suc max_n
    unfolding action_number
    actions_most base m count b em e f hs h =
        let last = action_number-within P s (A T - 1) (record { step_of = hs; action_of = omega arith }) in
        omega (arith, N-bound T few k hk)

    pub values_most : (x base m count w : ℕ) → base ≡ m → m ≡ value_number P s x 0 → count ≡ d T x → s < suc k → x < n T → w < d T x → base + count ≤ suc max_n
    unfolding value_number
    values_most x base m count w em e f hs hx h =
        let last = value_number-within P s x (d T x - 1) (record { step_of = omega arith; variable_of_lem = hx; value_of = omega arith }) in
        omega (arith, N-bound T few k hk)

  -- ---- two actions

  module _ (a b base : ℕ) (hs : s < k) (ha : a < b) (hb : b < A T) (e : base ≡ action_number P s 0) where
    abbrev c : ℕ
    c = place_number T k (TwoActions s a b)

    abbrev q : ℕ
    q = number_of_pair (A T) a b

    action_number_lem : (i : ℕ) → base + i ≡ action_number P s i
    unfolding action_number
    action_number_lem i = omega arith

    actions_line : (r i j : ℕ) → PairAt (A T) (q + r) i j → clause_line (clause Q (c + r)) ≡ exclusion_line base (A T) (q + r)
    unfolding problem_of number_in width_of exclusion_text
    actions_line r i j p =
        ap clause_line (clause8 T k (c + r) s (q + r) i j hs p (omega arith))
        ∙ ap (λ m. clause_line (minus m ∷ minus (action_number P s j) ∷ [])) (sym (action_number_lem i))
        ∙ ap (λ m. clause_line (minus (base + i) ∷ minus m ∷ [])) (sym (action_number_lem j))
        ∙ sym (pair_line base (A T) (q + r) i j p)

    module _ (lines : ℕ) (some : 1 ≤ lines) (h : q + lines ≤ pairs_below (A T)) where
      actions_run : run Q c lines ≡ exclusion_lines base (A T) q lines
      unfolding run exclusion_lines
      actions_run = for_each-ext lines _ _ (λ r l. let p = pair_exists (A T) (q + r) (omega arith) in actions_line r p.0 p.1 p.2)

      actions_up_to : c + lines ≤ C Q
      unfolding problem_of number_in width_of
      actions_up_to =
          below_end (clauses_before T k 7) (s * pairs_below (A T)) q lines (k * pairs_below (A T)) (C P) some
          (within_rows k (pairs_below (A T)) s (q + lines - 1) hs (below_width q lines (pairs_below (A T)) some h)) (omega (arith, (starts T k).end))

  actions_all : (a b base : ℕ) (before after : List ℕ) (at lines end : ℕ) → s < k → a < b → b < A T → base ≡ action_number P s 0
      → PutPairs base (A T) a b before at lines after end → PutPart file k (place_number T k (TwoActions s a b)) before at lines after end
  actions_all a b base before after at lines end hs ha hb e p =
      record {
        wrote = rw (actions_run a b base hs ha hb e lines p.some p.up_to) p.wrote;
        up_to = actions_up_to a b base hs ha hb e lines p.some p.up_to;
        within = p.within;
        none = λ z. absurd (omega (arith, p.some));
      }

  pub actions_part : (a b base m count : ℕ) (before after : List ℕ) (at lines end : ℕ) → s < k → a < b → b < A T → count ≡ A T → base ≡ m → m ≡ action_number P s 0
      → PutPairs base count a b before at lines after end → PutPart file k (place_number T k (TwoActions s a b)) before at lines after end
  actions_part a b base m count before after at lines end hs ha hb ec em e p = actions_all a b base before after at lines end hs ha hb (em ∙ e) (rw ec at p)

  -- ---- two values

  module _ (x v w base : ℕ) (hs : s < suc k) (hx : x < n T) (hv : v < w) (hw : w < d T x) (e : base ≡ value_number P s x 0) where
    abbrev c' : ℕ
    c' = place_number T k (TwoValues s x v w)

    abbrev q' : ℕ
    q' = number_of_pair (d T x) v w

    abbrev pairs_of : ℕ → ℕ
    pairs_of x = pairs_below (d T x)

    value_number_lem : (i : ℕ) → base + i ≡ value_number P s x i
    unfolding value_number
    value_number_lem i = omega arith

    values_line : (r i j : ℕ) → PairAt (d T x) (q' + r) i j → clause_line (clause Q (c' + r)) ≡ exclusion_line base (d T x) (q' + r)
    unfolding problem_of number_in width_of exclusion_text value_pairs_before
    values_line r i j p =
        ap clause_line (clause4 P (c' + r) s x (q' + r) i j hs hx p (omega arith))
        ∙ ap (λ m. clause_line (minus m ∷ minus (value_number P s x j) ∷ [])) (sym (value_number_lem i))
        ∙ ap (λ m. clause_line (minus (base + i) ∷ minus m ∷ [])) (sym (value_number_lem j))
        ∙ sym (pair_line base (d T x) (q' + r) i j p)

    module _ (lines : ℕ) (some : 1 ≤ lines) (h : q' + lines ≤ pairs_below (d T x)) where
      values_run : run Q c' lines ≡ exclusion_lines base (d T x) q' lines
      unfolding run exclusion_lines
      values_run = for_each-ext lines _ _ (λ r l. let p = pair_exists (d T x) (q' + r) (omega arith) in values_line r p.0 p.1 p.2)

      values_up_to : c' + lines ≤ C Q
      unfolding problem_of number_in width_of value_pairs_before
      values_up_to =
          nested (clauses_before T k 3) (s * sum_to (n T) pairs_of) (sum_to x pairs_of) q' (suc k * sum_to (n T) pairs_of) (C P)
          (within_steps (suc k) (n T) pairs_of s x (q' + lines - 1) hs hx (below_width q' lines (pairs_below (d T x)) some h))
          (omega (arith, (starts T k).start5, (starts T k).start6, (starts T k).start7, (starts T k).start8, (starts T k).end))
        where
          nested : (before rows row q all c : ℕ) → rows + (row + (q + lines - 1)) < all → before + all ≤ c → before + (rows + (row + q)) + lines ≤ c
          nested before rows row q all c l g = omega (arith, some)

  values_all : (x v w base : ℕ) (before after : List ℕ) (at lines end : ℕ) → s < suc k → x < n T → v < w → w < d T x → base ≡ value_number P s x 0
      → PutPairs base (d T x) v w before at lines after end → PutPart file k (place_number T k (TwoValues s x v w)) before at lines after end
  values_all x v w base before after at lines end hs hx hv hw e p =
      record {
        wrote = rw (values_run x v w base hs hx hv hw e lines p.some p.up_to) p.wrote;
        up_to = values_up_to x v w base hs hx hv hw e lines p.some p.up_to;
        within = p.within;
        none = λ z. absurd (omega (arith, p.some));
      }

  pub values_part : (x v w base m count : ℕ) (before after : List ℕ) (at lines end : ℕ) → s < suc k → x < n T → v < w → w < d T x → count ≡ d T x
      → base ≡ m → m ≡ value_number P s x 0 → PutPairs base count v w before at lines after end
      → PutPart file k (place_number T k (TwoValues s x v w)) before at lines after end
  values_part x v w base m count before after at lines end hs hx hv hw ec em e p = values_all x v w base before after at lines end hs hx hv hw (em ∙ e) (rw ec at p)
