-- What both rows are asked: the number is a variable's, and a value is inside.
-- Assumes nothing.
use mathlib.Core.Path.{◌≡◌}
use mathlib.Core.List.{List}
use Prim.Native.Nat.{ℕ, ◌<◌}
use native.Mathlib.Omega.{arith}
use Rattle.rules.specs.Task.{Task, n, d}
use Rattle.rules.specs.Numbering.{value_number, action_number}
use Rattle.rules.specs.File.{task_of}
use Rattle.rules.proofs.Files.{accepted_well_formed}
use Rattle.task.specs.Index.{Indexed}
use Rattle.task.specs.Numbers.{at_any_horizon}

module _ (file : List ℕ) (s : ℕ) where
  pub value_positive : (x v f g : ℕ) → f ≡ value_number (at_any_horizon file) s x v → g ≡ f → 0 < g
  unfolding value_number
  value_positive x v f g e h = omega arith

  pub action_positive : (a f g : ℕ) → f ≡ action_number (at_any_horizon file) s a → g ≡ f → 0 < g
  unfolding action_number
  action_positive a f g e h = omega arith

-- a place made of a variable and one of its values is inside
pub inside_value : (T : Task) (x v p q : ℕ) → p ≡ x → q ≡ v → v < d T x → q < d T p
inside_value T x v p q e f h = rw (e, f) h

pub inside_first : (file index : List ℕ) (x p q : ℕ) → Indexed file index → x < n (task_of file) → p ≡ x → q ≡ 0 → q < d (task_of file) p
inside_first file index x p q ix h e f = rw (e, f) (omega (arith, (accepted_well_formed file ix.accepted).some_value_lem x h))
