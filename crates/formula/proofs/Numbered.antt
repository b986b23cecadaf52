-- Formula numbers of a file's problem: the numbers of the reader's numbering, and within N.
-- Assumes nothing.
use mathlib.Core.Path.{◌≡◌, ◌∙◌}
use mathlib.Core.List.{List}
use Prim.Native.Nat.{ℕ, ◌≤◌, ◌<◌}
use native.Mathlib.Omega.{arith}
use Rattle.rules.specs.Limits.{max_horizon, max_n}
use Rattle.rules.specs.Task.{Task, n, d, A}
use Rattle.rules.specs.Problem.{Problem, problem}
use Rattle.rules.specs.Numbering.{value_number, action_number, N}
use Rattle.rules.specs.File.{task_of}
use Rattle.rules.proofs.Numbering.{value_number-within, action_number-within}
use Rattle.rules.proofs.Bounds.{N-bound}
use Rattle.rules.proofs.Files.{accepted_well_formed}
use Rattle.task.specs.Index.{Indexed}
use Rattle.task.specs.Numbers.{at_any_horizon}

module _ (file index : List ℕ) (ix : Indexed file index) (k : ℕ) (hk : k ≤ max_horizon) where
  abbrev P : Problem
  P = problem (task_of file) k

  highest : N P ≤ max_n
  highest = N-bound (task_of file) (accepted_well_formed file ix.accepted) k hk

  pub value_few : (r s x v : ℕ) → s ≤ k → x < n (task_of file) → v < d (task_of file) x → r ≡ value_number (at_any_horizon file) s x v → r ≤ max_n
  unfolding value_number
  value_few r s x v hs hx hv e =
      let within : value_number P s x v ≤ N P = value_number-within P s x v (record { step_of = hs; variable_of_lem = hx; value_of = hv }) in
      omega (arith, highest)

  pub action_few : (r s a b : ℕ) → b ≡ a → s < k → a < A (task_of file) → r ≡ action_number (at_any_horizon file) s b → r ≤ max_n
  unfolding action_number
  action_few r s a b eb hs ha e =
      let within : action_number P s a ≤ N P = action_number-within P s a (record { step_of = hs; action_of = ha }) in
      omega (arith, highest)

pub value_same : (file : List ℕ) (k r s x v : ℕ) → r ≡ value_number (at_any_horizon file) s x v → r ≡ value_number (problem (task_of file) k) s x v
unfolding value_number
value_same file k r s x v e = e

pub value_there : (file : List ℕ) (k r s x v y w : ℕ) → y ≡ x → w ≡ v → r ≡ value_number (problem (task_of file) k) s y w → r ≡ value_number (problem (task_of file) k) s x v
value_there file k r s x v y w ey ew e = e ∙ rw (ey, ew)

pub action_same : (file : List ℕ) (k r s a b : ℕ) → b ≡ a → r ≡ action_number (at_any_horizon file) s b → r ≡ action_number (problem (task_of file) k) s a
unfolding action_number
action_same file k r s a b eb e = e ∙ rw eb

pub value_inside : (T : Task) (x v y w : ℕ) → y ≡ x → w ≡ v → v < d T x → w < d T y
value_inside T x v y w ey ew h = rw (ey, ew) h
