-- The numbering is one to one: different values and actions at different steps have different formula numbers, and together these are exactly 1 to N.
-- Assumes nothing.
use mathlib.Core.Path.{◌≡◌, ap}
use mathlib.Core.Logic.{◌⊎◌, inl, inr, ⊎_elim}
use Prim.Native.Nat.{ℕ, ◌+◌, ◌-◌, ◌*◌, ◌≤◌, ◌<◌}
use native.Mathlib.Nat.{mul-le-mul_right, suc-mul}
use native.Mathlib.Omega.{arith}
use Rattle.rules.specs.Task.{Task, n, d, off, S, A}
use Rattle.rules.specs.Problem.{Problem}
use Rattle.rules.specs.Numbering.{stride, value_number, action_number, N}
use Rattle.rules.proofs.Bools.{below_or}
use Rattle.rules.proofs.Counting.{sum_to-const, sum_to-part, Located, locate, same_part}

-- ---- a place within a step: a value's place, or an action's behind all values

pub value_place : (T : Task) (x v : ℕ) → x < n T → v < d T x → off T x + v < S T
value_place T x v hx hv = omega (arith, sum_to-part (n T) (d T) x hx)

-- a place below the stride, at a step before s, is below the places of step s
pub step_before : (T : Task) (s t i : ℕ) → s < t → i < stride T → s * stride T + i < t * stride T
step_before T s t i h l = omega (arith, mul-le-mul_right (stride T) h, suc-mul s (stride T))

-- a step and a place within it are told by their sum
pub same_step : (T : Task) (s t i j : ℕ) → i < stride T → j < stride T → s * stride T + i ≡ t * stride T + j → s ≡ t
same_step T s t i j hi hj e =
    same_part (λ u. stride T) s t i j hi hj (omega (arith, sum_to-const s (stride T), sum_to-const t (stride T)))

module _ (P : Problem) where
  -- value v of x at one of the steps 1 to k + 1
  pub record AtValue (s x v : ℕ) : Type 0 where
    pub step_of : s ≤ P.horizon
    pub variable_of_lem : x < n P.task
    pub value_of : v < d P.task x

  -- action a at one of the steps 1 to k
  pub record AtAction (s a : ℕ) : Type 0 where
    pub step_of : s < P.horizon
    pub action_of : a < A P.task

  -- ---- the numbers lie in 1 to N

  pub value_number-positive : (s x v : ℕ) → 1 ≤ value_number P s x v
  unfolding value_number
  value_number-positive s x v = omega arith

  pub action_number-positive : (s a : ℕ) → 1 ≤ action_number P s a
  unfolding action_number
  action_number-positive s a = omega arith

  pub value_number-within : (s x v : ℕ) → AtValue s x v → value_number P s x v ≤ N P
  unfolding value_number N
  value_number-within s x v h =
      omega (arith, mul-le-mul_right (stride P.task) h.step_of, value_place P.task x v h.variable_of_lem h.value_of)

  pub action_number-within : (s a : ℕ) → AtAction s a → action_number P s a ≤ N P
  unfolding action_number N
  action_number-within s a h = omega (arith, step_before P.task s P.horizon (S P.task + a) h.step_of (omega (arith, h.action_of)))

  -- ---- different things have different numbers

  value_step : (s x v t y w : ℕ) → AtValue s x v → AtValue t y w → value_number P s x v ≡ value_number P t y w → s ≡ t
  unfolding value_number
  value_step s x v t y w h k e =
      same_step P.task s t (off P.task x + v) (off P.task y + w)
      (omega (arith, value_place P.task x v h.variable_of_lem h.value_of))
      (omega (arith, value_place P.task y w k.variable_of_lem k.value_of))
      (omega arith)

  pub values_apart : (s x v t y w : ℕ) → AtValue s x v → AtValue t y w → value_number P s x v ≡ value_number P t y w → (s ≡ t) × (x ≡ y) × (v ≡ w)
  unfolding value_number
  values_apart s x v t y w h k e =
      let es : s ≡ t = value_step s x v t y w h k e in
      let em : s * stride P.task ≡ t * stride P.task = ap (λ u. u * stride P.task) es in
      let ex : x ≡ y = same_part (d P.task) x y v w h.value_of k.value_of (omega arith) in
      (es, ex, omega (arith, ap (off P.task) ex))

  pub actions_apart : (s a t b : ℕ) → AtAction s a → AtAction t b → action_number P s a ≡ action_number P t b → (s ≡ t) × (a ≡ b)
  unfolding action_number
  actions_apart s a t b h k e =
      let es : s ≡ t =
      same_step P.task s t (S P.task + a) (S P.task + b) (omega (arith, h.action_of)) (omega (arith, k.action_of)) (omega arith) in
      let em : s * stride P.task ≡ t * stride P.task = ap (λ u. u * stride P.task) es in
      (es, omega arith)

  pub value_no_action : (s x v t a : ℕ) → AtValue s x v → AtAction t a → value_number P s x v ≡ action_number P t a → ⊥
  unfolding value_number action_number
  value_no_action s x v t a h k e =
      let place = value_place P.task x v h.variable_of_lem h.value_of in
      let es : s ≡ t =
      same_step P.task s t (off P.task x + v) (S P.task + a) (omega arith) (omega (arith, k.action_of)) (omega arith) in
      let em : s * stride P.task ≡ t * stride P.task = ap (λ u. u * stride P.task) es in
      omega arith

  -- ---- each of 1 to N is the number of a value or of an action

  pub record ValueAt (i : ℕ) : Type 0 where
    pub step : ℕ
    pub variable : ℕ
    pub value : ℕ
    pub at : AtValue step variable value
    pub is : i ≡ value_number P step variable value

  pub record ActionAt (i : ℕ) : Type 0 where
    pub step : ℕ
    pub action : ℕ
    pub at : AtAction step action
    pub is : i ≡ action_number P step action

  value_there : (i s : ℕ) → s ≤ P.horizon → (place : ℕ) → place < S P.task → i ≡ s * stride P.task + place + 1 → ValueAt i
  unfolding value_number
  value_there i s hs place l e =
      let r : Located (n P.task) (d P.task) place = locate (n P.task) (d P.task) place l in
      record {
        step = s;
        variable = r.part;
        value = r.place;
        at = record { step_of = hs; variable_of_lem = r.part_below; value_of = r.place_below };
        is = omega (arith, r.is);
      }

  action_there : (i s : ℕ) → s < P.horizon → (place : ℕ) → S P.task ≤ place → place < stride P.task → i ≡ s * stride P.task + place + 1 → ActionAt i
  unfolding action_number
  action_there i s hs place g l e =
      record { step = s; action = place - S P.task; at = record { step_of = hs; action_of = omega arith }; is = omega arith }

  pub numbered : (i : ℕ) → 1 ≤ i → i ≤ N P → ValueAt i ⊎ ActionAt i
  unfolding N
  numbered i h l =
      ⊎_elim
      (λ b.
      let r : Located P.horizon (λ s. stride P.task) (i - 1) =
      locate P.horizon (λ s. stride P.task) (i - 1) (omega (arith, sum_to-const P.horizon (stride P.task))) in
      let e : i ≡ r.part * stride P.task + r.place + 1 = omega (arith, r.is, sum_to-const r.part (stride P.task)) in
      ⊎_elim (λ v. inl (value_there i r.part (omega (arith, r.part_below)) r.place v e))
      (λ a. inr (action_there i r.part r.part_below r.place a r.place_below e))
      (below_or r.place (S P.task)))
      (λ b. inl (value_there i P.horizon (omega arith) (i - 1 - P.horizon * stride P.task) (omega arith) (omega arith)))
      (below_or (i - 1) (P.horizon * stride P.task))
