-- An assignment laid out in the order of the numbering: what stands at the number of a value or of an action, and that nothing else stands there.
-- Assumes nothing.
use mathlib.Core.Path.{◌≡◌, sym, ap, ap₂, ◌∙◌}
use mathlib.Core.Logic.{⊎_elim}
use mathlib.Core.Bool.{Bool, false}
use mathlib.Core.List.{List, [], ◌∷◌, ◌++◌}
use Prim.Native.Nat.{ℕ, suc, ◌+◌, ◌-◌, ◌*◌, ◌≤◌, ◌<◌}
use native.Mathlib.Omega.{arith}
use lib.ListN.{length, get_or, length-append, get_or-append}
use lib.Seq.{get_or-append-add, ext_get_or}
use Rattle.rules.specs.Counting.{sum_to, for_each, table}
use Rattle.rules.specs.Task.{Task, n, d, off, S, A}
use Rattle.rules.specs.Problem.{Problem}
use Rattle.rules.specs.Numbering.{stride, value_number, action_number, N}
use Rattle.rules.proofs.Bools.{below_or}
use Rattle.rules.proofs.Counting.{sum_to-ext, sum_to-const, length-for_each, length-table, for_each-ext, get_or-for_each, get_or-table}
use Rattle.rules.proofs.Numbering.{value_place, step_before, AtValue, AtAction, numbered}

-- what an assignment says of value v of x at step s, and of action a at step s
abbrev pub Values : Type 0
Values = ℕ → ℕ → ℕ → Bool

abbrev pub Moves : Type 0
Moves = ℕ → ℕ → Bool

unfoldable pub values_at : Task → (ℕ → ℕ → Bool) → List Bool
values_at T val = for_each (n T) (λ x. table (d T x) (val x))

unfoldable pub step_at : Task → (ℕ → ℕ → Bool) → (ℕ → Bool) → List Bool
step_at T val act = values_at T val ++ table (A T) act

unfoldable pub layout : Problem → Values → Moves → List Bool
layout P val act = for_each P.horizon (λ s. step_at P.task (val s) (act s)) ++ values_at P.task (val P.horizon)

-- ---- lengths

pub length-values : (T : Task) (val : ℕ → ℕ → Bool) → length (values_at T val) ≡ S T
unfolding values_at
length-values T val =
    length-for_each (n T) (λ x. table (d T x) (val x)) ∙ sum_to-ext (n T) (λ x. length (table (d T x) (val x))) (d T) (λ x l. length-table (d T x) (val x))

pub length-step : (T : Task) (val : ℕ → ℕ → Bool) (act : ℕ → Bool) → length (step_at T val act) ≡ stride T
unfolding step_at
length-step T val act = length-append (values_at T val) (table (A T) act) ∙ omega (arith, length-values T val, length-table (A T) act)

module _ (P : Problem) (val : Values) (act : Moves) where
  -- all that the steps before s lay out
  steps_sum : (s : ℕ) → sum_to s (λ t. length (step_at P.task (val t) (act t))) ≡ s * stride P.task
  steps_sum s =
      sum_to-ext s (λ t. length (step_at P.task (val t) (act t))) (λ t. stride P.task) (λ t l. length-step P.task (val t) (act t))
      ∙ sum_to-const s (stride P.task)

  length-steps : length (for_each P.horizon (λ s. step_at P.task (val s) (act s))) ≡ P.horizon * stride P.task
  length-steps = length-for_each P.horizon (λ s. step_at P.task (val s) (act s)) ∙ steps_sum P.horizon

  pub length-layout : length (layout P val act) ≡ N P
  unfolding layout N
  length-layout =
      length-append (for_each P.horizon (λ s. step_at P.task (val s) (act s))) (values_at P.task (val P.horizon))
      ∙ omega (arith, length-steps, length-values P.task (val P.horizon))

  -- ---- what stands at a number

  values_place : (f : ℕ → ℕ → Bool) (x v : ℕ) → x < n P.task → v < d P.task x → get_or (values_at P.task f) (off P.task x + v) false ≡ f x v
  unfolding values_at
  values_place f x v hx hv =
      let T = P.task in
      let e : sum_to x (λ y. length (table (d T y) (f y))) ≡ off T x =
      sum_to-ext x (λ y. length (table (d T y) (f y))) (d T) (λ y l. length-table (d T y) (f y)) in
      ap (λ i. get_or (for_each (n T) (λ y. table (d T y) (f y))) (i + v) false) (sym e)
      ∙ get_or-for_each (n T) (λ y. table (d T y) (f y)) false x v hx (omega (arith, length-table (d T x) (f x)))
      ∙ get_or-table (d T x) (f x) false v hv

  -- place i of step s, before the last
  step_place : (s i : ℕ) → s < P.horizon → i < stride P.task
      → get_or (layout P val act) (s * stride P.task + i) false ≡ get_or (step_at P.task (val s) (act s)) i false
  unfolding layout
  step_place s i hs hi =
      get_or-append (for_each P.horizon (λ s. step_at P.task (val s) (act s))) (values_at P.task (val P.horizon)) false (s * stride P.task + i)
      (omega (arith, length-steps, step_before P.task s P.horizon i hs hi))
      ∙ ap (λ j. get_or (for_each P.horizon (λ s. step_at P.task (val s) (act s))) (j + i) false) (sym (steps_sum s))
      ∙ get_or-for_each P.horizon (λ s. step_at P.task (val s) (act s)) false s i hs (omega (arith, length-step P.task (val s) (act s)))

  last_place : (i : ℕ) → get_or (layout P val act) (P.horizon * stride P.task + i) false ≡ get_or (values_at P.task (val P.horizon)) i false
  unfolding layout
  last_place i =
      ap (λ j. get_or (for_each P.horizon (λ s. step_at P.task (val s) (act s)) ++ values_at P.task (val P.horizon)) (j + i) false) (sym length-steps)
      ∙ get_or-append-add (for_each P.horizon (λ s. step_at P.task (val s) (act s))) (values_at P.task (val P.horizon)) i false

  value_in_step : (s x v : ℕ) → x < n P.task → v < d P.task x → get_or (step_at P.task (val s) (act s)) (off P.task x + v) false ≡ val s x v
  unfolding step_at
  value_in_step s x v hx hv =
      get_or-append (values_at P.task (val s)) (table (A P.task) (act s)) false (off P.task x + v)
      (omega (arith, length-values P.task (val s), value_place P.task x v hx hv))
      ∙ values_place (val s) x v hx hv

  action_in-step : (s a : ℕ) → a < A P.task → get_or (step_at P.task (val s) (act s)) (S P.task + a) false ≡ act s a
  unfolding step_at
  action_in-step s a ha =
      ap (λ j. get_or (values_at P.task (val s) ++ table (A P.task) (act s)) (j + a) false) (sym (length-values P.task (val s)))
      ∙ get_or-append-add (values_at P.task (val s)) (table (A P.task) (act s)) a false
      ∙ get_or-table (A P.task) (act s) false a ha

  pub layout_value : (s x v : ℕ) → AtValue P s x v → get_or (layout P val act) (value_number P s x v - 1) false ≡ val s x v
  unfolding value_number
  layout_value s x v h =
      let hx = h.variable_of_lem in
      let hv = h.value_of in
      let at : s * stride P.task + off P.task x + v + 1 - 1 ≡ s * stride P.task + (off P.task x + v) = omega arith in
      ap (λ i. get_or (layout P val act) i false) at
      ∙ ⊎_elim
      (λ b.
      step_place s (off P.task x + v) b (omega (arith, value_place P.task x v hx hv))
      ∙ value_in_step s x v hx hv)
      (λ b.
      let e : s ≡ P.horizon = omega (arith, h.step_of) in
      ap (λ t. get_or (layout P val act) (t * stride P.task + (off P.task x + v)) false) e
      ∙ last_place (off P.task x + v)
      ∙ values_place (val P.horizon) x v hx hv
      ∙ ap (λ t. val t x v) (sym e))
      (below_or s P.horizon)

  pub layout_action : (s a : ℕ) → AtAction P s a → get_or (layout P val act) (action_number P s a - 1) false ≡ act s a
  unfolding action_number
  layout_action s a h =
      let at : s * stride P.task + S P.task + a + 1 - 1 ≡ s * stride P.task + (S P.task + a) = omega arith in
      ap (λ i. get_or (layout P val act) i false) at
      ∙ step_place s (S P.task + a) h.step_of (omega (arith, h.action_of))
      ∙ action_in-step s a h.action_of

-- an assignment of the N variables is what it says of each value and each action
pub laid_out_lem : (P : Problem) (val : Values) (act : Moves) (bits : List Bool) → length bits ≡ N P
    → ((s x v : ℕ) → AtValue P s x v → get_or bits (value_number P s x v - 1) false ≡ val s x v)
    → ((s a : ℕ) → AtAction P s a → get_or bits (action_number P s a - 1) false ≡ act s a)
    → bits ≡ layout P val act
laid_out_lem P val act bits size hv ha =
    ext_get_or false bits (layout P val act) (size ∙ sym (length-layout P val act)) (λ i l.
    ⊎_elim
    (λ r.
    ap (λ j. get_or bits j false) (omega (arith, r.is))
    ∙ hv r.step r.variable r.value r.at
    ∙ sym (layout_value P val act r.step r.variable r.value r.at)
    ∙ ap (λ j. get_or (layout P val act) j false) (omega (arith, r.is)))
    (λ r.
    ap (λ j. get_or bits j false) (omega (arith, r.is))
    ∙ ha r.step r.action r.at
    ∙ sym (layout_action P val act r.step r.action r.at)
    ∙ ap (λ j. get_or (layout P val act) j false) (omega (arith, r.is)))
    (numbered P (suc i) (omega arith) (omega arith)))

-- equal parts are laid out alike
pub layout_ext : (P : Problem) (val val' : Values) (act act' : Moves)
    → ((s : ℕ) → s ≤ P.horizon → values_at P.task (val s) ≡ values_at P.task (val' s))
    → ((s a : ℕ) → s < P.horizon → a < A P.task → act s a ≡ act' s a)
    → layout P val act ≡ layout P val' act'
unfolding layout step_at
layout_ext P val val' act act' hv ha =
    ap₂ ◌++◌
    (for_each-ext P.horizon _ _ (λ s l.
    ap₂ ◌++◌ (hv s (omega arith)) (for_each-ext (A P.task) _ _ (λ a b. ap (λ t. t ∷ []) (ha s a l b)))))
    (hv P.horizon (omega arith))
