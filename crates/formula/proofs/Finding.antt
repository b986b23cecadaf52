-- The row at which a column passes q, found by halving, and columns of an index as running sums.
-- Assumes nothing.
use mathlib.Core.Path.{◌≡◌, ap, ◌∙◌}
use mathlib.Core.List.{List}
use Prim.Native.Nat.{ℕ, suc, ◌+◌, ◌*◌, ◌≤◌, ◌<◌}
use native.Mathlib.Omega.{arith}
use lib.ListN.{length, get_or}
use Rattle.rules.specs.Counting.{sum_to}
use Rattle.rules.specs.Counts.{pairs_below}
use Rattle.rules.specs.Task.{Task, n, d, S, A, action}
use Rattle.rules.specs.File.{task_of}
use Rattle.rules.proofs.Valid.{WellFormed}
use Rattle.rules.proofs.Files.{accepted_well_formed}
use Rattle.pairs.specs.Halving.{Passes}
use Rattle.pairs.proofs.Halving.{Bracket, bracket_start}
use Rattle.task.specs.Index.{Indexed, variable_width, action_width, actions_at, value_pairs_before, preconditions_before, effects_before}
use Rattle.task.proofs.Asking.{index_long, offset_asked, value_pairs_asked, preconditions_asked, effects_asked}
use Rattle.formula.specs.Parts.{column, Spans, InPart}

pub column_read : (index : List ℕ) (at width i r : ℕ) → r ≡ get_or index (at + width * i) 0 → r ≡ column index at width i
unfolding column
column_read index at width i r e = e

-- ---- the halving

module _ (index : List ℕ) (at width rows q : ℕ) (h : Spans index at width rows q) where
  pub row_start : Bracket (column index at width) rows q 0 rows
  row_start = bracket_start (column index at width) rows q h.from h.to

-- ---- a column that is a running sum

module _ (index : List ℕ) (at width m : ℕ) (w : ℕ → ℕ) (sums : (i : ℕ) → i ≤ m → column index at width i ≡ sum_to i w) (q : ℕ) where
  sums_span : at + width * m < length index → q < sum_to m w → Spans index at width m q
  unfolding sum_to
  sums_span h l = record { room = h; from = omega (arith, sums 0 (omega arith)); to = omega (arith, sums m (omega arith)) }

  sums_pass : (x : ℕ) → Passes (column index at width) m q x → InPart m w q x
  unfolding sum_to
  sums_pass x p =
      record {
        below = p.below;
        begun = omega (arith, p.begun, sums x (omega (arith, p.below)));
        inside = omega (arith, p.begun, p.ahead, sums x (omega (arith, p.below)), sums (suc x) p.below);
      }

module _ (file index : List ℕ) (ix : Indexed file index) (q m : ℕ) where
  abbrev T : Task
  T = task_of file

  few : WellFormed T
  few = accepted_well_formed file ix.accepted

  values_in : (i : ℕ) → i ≤ n T → column index 0 variable_width i ≡ sum_to i (d T)
  unfolding column
  values_in i h = ap (λ k. get_or index k 0) (omega arith) ∙ offset_asked file index ix i (omega (arith, few.variables_few))

  pairs_in : (i : ℕ) → i ≤ n T → column index 1 variable_width i ≡ sum_to i (λ x. pairs_below (d T x))
  unfolding column value_pairs_before
  pairs_in i h = ap (λ k. get_or index k 0) (omega arith) ∙ value_pairs_asked file index ix i (omega (arith, few.variables_few))

  preconditions_in : (i : ℕ) → i ≤ A T → column index (actions_at + 1) action_width i ≡ sum_to i (λ a. length (action T a).preconditions)
  unfolding column preconditions_before
  preconditions_in i h = ap (λ k. get_or index k 0) (omega arith) ∙ preconditions_asked file index ix i (omega (arith, few.actions_few))

  effects_in : (i : ℕ) → i ≤ A T → column index (actions_at + 2) action_width i ≡ sum_to i (λ a. length (action T a).effects)
  unfolding column effects_before
  effects_in i h = ap (λ k. get_or index k 0) (omega arith) ∙ effects_asked file index ix i (omega (arith, few.actions_few))

  module _ (e : m ≡ n T) where
    pub values_span : q < S T → Spans index 0 variable_width m q
    values_span h = rw e (sums_span index 0 variable_width (n T) (d T) values_in q (omega (arith, few.variables_few, index_long file index ix)) h)

    pub value_part : (x : ℕ) → Passes (column index 0 variable_width) m q x → InPart (n T) (d T) q x
    value_part x p = sums_pass index 0 variable_width (n T) (d T) values_in q x (rw e at p)

    pub pairs_span : q < value_pairs_before T (n T) → Spans index 1 variable_width m q
    unfolding value_pairs_before
    pairs_span h =
        rw e (sums_span index 1 variable_width (n T) (λ x. pairs_below (d T x)) pairs_in q (omega (arith, few.variables_few, index_long file index ix)) h)

    pub pair_part : (x : ℕ) → Passes (column index 1 variable_width) m q x → InPart (n T) (λ x. pairs_below (d T x)) q x
    pair_part x p = sums_pass index 1 variable_width (n T) (λ x. pairs_below (d T x)) pairs_in q x (rw e at p)

  module _ (e : m ≡ A T) where
    pub preconditions_span : q < preconditions_before T (A T) → Spans index (actions_at + 1) action_width m q
    unfolding preconditions_before
    preconditions_span h =
        rw e (sums_span index (actions_at + 1) action_width (A T) (λ a. length (action T a).preconditions) preconditions_in q
        (omega (arith, few.actions_few, index_long file index ix)) h)

    pub precondition_part : (a : ℕ) → Passes (column index (actions_at + 1) action_width) m q a → InPart (A T) (λ a. length (action T a).preconditions) q a
    precondition_part a p = sums_pass index (actions_at + 1) action_width (A T) (λ a. length (action T a).preconditions) preconditions_in q a (rw e at p)

    pub effects_span : q < effects_before T (A T) → Spans index (actions_at + 2) action_width m q
    unfolding effects_before
    effects_span h =
        rw e (sums_span index (actions_at + 2) action_width (A T) (λ a. length (action T a).effects) effects_in q
        (omega (arith, few.actions_few, index_long file index ix)) h)

    pub effect_part : (a : ℕ) → Passes (column index (actions_at + 2) action_width) m q a → InPart (A T) (λ a. length (action T a).effects) q a
    effect_part a p = sums_pass index (actions_at + 2) action_width (A T) (λ a. length (action T a).effects) effects_in q a (rw e at p)
