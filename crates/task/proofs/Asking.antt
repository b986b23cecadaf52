-- What an accepted file and its index say of the task, by place.
-- Assumes nothing.
use mathlib.Core.Path.{◌≡◌, refl, sym, ap, ◌∙◌}
use mathlib.Core.List.{List, [], ◌∷◌, ◌++◌}
use Prim.Native.Nat.{ℕ, ◌+◌, ◌*◌, ◌≤◌, ◌<◌}
use native.Mathlib.Omega.{arith}
use native.Mathlib.Nat.{mul-le-mul}
use mir.Syntax.{w64}
use mir.Val.{Fits}
use lib.ListN.{length, get_or, length-append, get_or-append, get_or-eq_default}
use lib.Seq.{get_or-append-add}
use Rattle.rules.specs.Counting.{for_each}
use Rattle.rules.specs.Limits.{max_variables, max_values, max_actions, max_horizon}
use Rattle.rules.specs.Task.{Task, n, d, off, S, A, action}
use Rattle.rules.specs.File.{body_start, body, task_of}
use Rattle.rules.specs.Numbering.{stride, value_number, action_number}
use Rattle.rules.specs.Calls.{problem_of}
use Rattle.rules.proofs.Counting.{sum_to-ext, sum_to-flat, length-for_each, get_or-for_each}
use Rattle.rules.proofs.Numbering.{value_place}
use Rattle.rules.proofs.Valid.{WellFormed}
use Rattle.rules.proofs.Files.{accepted_well_formed}
use Rattle.task.specs.Index.{variable_row, action_row, variable_rows, action_rows, variable_width, action_width, actions_at, count_at, index_length, index_of, action_place, value_pairs_before, preconditions_before, effects_before, Indexed}
use Rattle.task.specs.Numbers.{at_any_horizon}
use Rattle.task.proofs.Bytes.{precondition_count, effect_count}
use Rattle.task.proofs.Rows.{length-rows, wide_variable, wide_action}

-- ---- the index, number by number

-- number j of row i
row_at : (f : ℕ → List ℕ) (width : ℕ) → ((i : ℕ) → length (f i) ≡ width) → (m i j : ℕ) → i < m → j < width
    → get_or (for_each m f) (width * i + j) 0 ≡ get_or (f i) j 0
row_at f width wide m i j h l =
    ap (λ k. get_or (for_each m f) (k + j) 0) (sym (length-rows f width wide i) ∙ length-for_each i f)
    ∙ get_or-for_each m f 0 i j h (omega (arith, wide i))

module _ (file index : List ℕ) (ix : Indexed file index) where
  abbrev T : Task
  T = task_of file

  abbrev rows₁ : List ℕ
  rows₁ = for_each variable_rows (variable_row (body file 0))

  abbrev rows₂ : List ℕ
  rows₂ = for_each action_rows (action_row (body_start file 3) (body file 3))

  long₁ : length rows₁ ≡ actions_at
  long₁ = length-rows (variable_row (body file 0)) variable_width (wide_variable (body file 0)) variable_rows

  long₂ : length rows₂ ≡ action_width * action_rows
  long₂ = length-rows (action_row (body_start file 3) (body file 3)) action_width (wide_action (body_start file 3) (body file 3)) action_rows

  parts : index ≡ rows₁ ++ (rows₂ ++ (A T ∷ []))
  unfolding index_of
  parts = ix.filled

  pub index_long : length index ≡ index_length
  index_long =
      omega (arith, ap length parts, length-append rows₁ (rows₂ ++ (A T ∷ [])), length-append rows₂ (A T ∷ []), long₁, long₂)

  variable_at : (x j : ℕ) → x ≤ max_variables → j < variable_width → get_or index (variable_width * x + j) 0 ≡ get_or (variable_row (body file 0) x) j 0
  variable_at x j h l =
      ap (λ i. get_or i (variable_width * x + j) 0) parts
      ∙ get_or-append rows₁ (rows₂ ++ (A T ∷ [])) 0 (variable_width * x + j) (omega (arith, long₁))
      ∙ row_at (variable_row (body file 0)) variable_width (wide_variable (body file 0)) variable_rows x j (omega arith) l

  behind : (k : ℕ) → get_or index (actions_at + k) 0 ≡ get_or (rows₂ ++ (A T ∷ [])) k 0
  behind k =
      ap (λ i. get_or i (actions_at + k) 0) parts
      ∙ ap (λ b. get_or (rows₁ ++ (rows₂ ++ (A T ∷ []))) (b + k) 0) (sym long₁)
      ∙ get_or-append-add rows₁ (rows₂ ++ (A T ∷ [])) k 0

  action_at : (a j : ℕ) → a ≤ max_actions → j < action_width
      → get_or index (actions_at + (action_width * a + j)) 0 ≡ get_or (action_row (body_start file 3) (body file 3) a) j 0
  action_at a j h l =
      behind (action_width * a + j)
      ∙ get_or-append rows₂ (A T ∷ []) 0 (action_width * a + j) (omega (arith, long₂))
      ∙ row_at (action_row (body_start file 3) (body file 3)) action_width (wide_action (body_start file 3) (body file 3)) action_rows a j (omega arith) l

  pub count_asked : get_or index count_at 0 ≡ A T
  count_asked =
      behind (action_width * action_rows)
      ∙ ap (λ k. get_or (rows₂ ++ (A T ∷ [])) k 0) (omega (arith, long₂))
      ∙ get_or-append-add rows₂ (A T ∷ []) 0 0

  pub offset_asked : (x : ℕ) → x ≤ max_variables → get_or index (variable_width * x) 0 ≡ off T x
  unfolding task_of variable_row
  offset_asked x h = ap (λ k. get_or index k 0) (omega arith) ∙ variable_at x 0 h (omega arith)

  pub value_pairs_asked : (x : ℕ) → x ≤ max_variables → get_or index (variable_width * x + 1) 0 ≡ value_pairs_before T x
  unfolding task_of variable_row value_pairs_before
  value_pairs_asked x h = variable_at x 1 h (omega arith)

  pub place_asked : (a : ℕ) → a ≤ max_actions → get_or index (actions_at + action_width * a) 0 ≡ action_place file a
  unfolding action_row action_place
  place_asked a h = ap (λ k. get_or index k 0) (omega arith) ∙ action_at a 0 h (omega arith)

  pub preconditions_asked : (a : ℕ) → a ≤ max_actions
      → get_or index (actions_at + action_width * a + 1) 0 ≡ preconditions_before T a
  unfolding action_row preconditions_before
  preconditions_asked a h =
      ap (λ k. get_or index k 0) (omega arith) ∙ action_at a 1 h (omega arith)
      ∙ sum_to-ext a _ (λ b. length (action T b).preconditions) (λ b l. sym (precondition_count file b))

  pub effects_asked : (a : ℕ) → a ≤ max_actions
      → get_or index (actions_at + action_width * a + 2) 0 ≡ effects_before T a
  unfolding action_row effects_before
  effects_asked a h =
      ap (λ k. get_or index k 0) (omega arith) ∙ action_at a 2 h (omega arith)
      ∙ sum_to-ext a _ (λ b. length (action T b).effects) (λ b l. sym (effect_count file b))

  -- the values of all variables, looked up behind the last row that there can be
  pub values_asked : get_or index (variable_width * max_variables) 0 ≡ S T
  values_asked =
      offset_asked max_variables (omega arith)
      ∙ sum_to-flat (d T) (n T) max_variables (accepted_well_formed file ix.accepted).variables_few (λ x h. get_or-eq_default T.sizes 0 h)

  -- ---- the numbering

  few : WellFormed T
  few = accepted_well_formed file ix.accepted

  pub stride_fits : (s a : ℕ) → s ≡ S T → a ≡ A T → Fits w64 (s + a)
  stride_fits s a es ea = record { fits = omega (arith, few.values_few, few.actions_few) }

  pub stride_few : (w : ℕ) → w ≡ stride T → w ≤ max_values + max_actions
  stride_few w e = omega (arith, few.values_few, few.actions_few)

  pub variable_few : (x : ℕ) → x < n T → x ≤ max_variables
  variable_few x h = omega (arith, few.variables_few)

  pub action_few : (a b : ℕ) → b ≡ a → a < A T → b ≤ max_actions
  action_few a b e h = omega (arith, few.actions_few)

  module _ (x v o : ℕ) (eo : o ≡ off T x) (hx : x < n T) (hv : v < d T x) where
    pub value_fits : Fits w64 (o + v)
    value_fits = record { fits = omega (arith, value_place T x v hx hv, few.values_few) }

    module _ (w : ℕ) (ew : w ≡ stride T) where
      pub value_within : o + v ≤ w
      value_within = omega (arith, value_place T x v hx hv)

      pub value_numbered : (s r : ℕ) → r ≡ s * w + (o + v) + 1 → r ≡ value_number (at_any_horizon file) s x v
      unfolding value_number
      value_numbered s r e = e ∙ rw (ew, eo) (omega arith)

  module _ (a o : ℕ) (eo : o ≡ S T) (ha : a < A T) where
    pub action_fits : Fits w64 (o + a)
    action_fits = record { fits = omega (arith, few.values_few, few.actions_few) }

    module _ (w : ℕ) (ew : w ≡ stride T) where
      pub action_within : o + a ≤ w
      action_within = omega arith

      pub action_numbered : (s r : ℕ) → r ≡ s * w + (o + a) + 1 → r ≡ action_number (at_any_horizon file) s a
      unfolding action_number
      action_numbered s r e = e ∙ rw (ew, eo) (omega arith)

pub place_of : (file : List ℕ) (a b p : ℕ) → b ≡ a → p ≡ action_place file b → p ≡ action_place file a
place_of file a b p e h = h ∙ ap (action_place file) e

-- ---- a number in a step of a width, from 1

pub number_fits : (s w : ℕ) → s ≤ max_horizon → w ≤ max_values + max_actions → Fits w64 (s * w)
number_fits s w h l = record { fits = omega (arith, mul-le-mul h l) }

pub number-fits₁ : (s w p : ℕ) → s ≤ max_horizon → w ≤ max_values + max_actions → p ≤ w → Fits w64 (s * w + p)
number-fits₁ s w p h l k = record { fits = omega (arith, mul-le-mul h l) }

-- ---- the numbers are the same at every horizon

module _ (file : List ℕ) (k s : ℕ) where
  pub value_at_horizon : (x v : ℕ) → value_number (at_any_horizon file) s x v ≡ value_number (problem_of file k) s x v
  unfolding value_number problem_of
  value_at_horizon x v = refl

  pub action_at_horizon : (a : ℕ) → action_number (at_any_horizon file) s a ≡ action_number (problem_of file k) s a
  unfolding action_number problem_of
  action_at_horizon a = refl
