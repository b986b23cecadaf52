-- What the program knows of an accepted file.
-- Assumes nothing.
use mathlib.Core.Path.{◌≡◌}
use mathlib.Core.List.{List}
use Prim.Native.Nat.{ℕ, ◌≤◌, ◌<◌}
use Rattle.rules.specs.Limits.{max_actions}
use Rattle.rules.specs.Task.{n, d, A, start_value}
use Rattle.rules.specs.File.{task_of}
use Rattle.rules.proofs.Files.{accepted_well_formed}
use Rattle.task.specs.Index.{Indexed}

module _ (file index : List ℕ) (ix : Indexed file index) where
  pub variable_inside : (x y : ℕ) → y ≡ x → x < n (task_of file) → y < n (task_of file)
  variable_inside x y e h = rw e h

  pub start_inside : (x y v w : ℕ) → y ≡ x → w ≡ v → v ≡ start_value (task_of file) x → x < n (task_of file) → w < d (task_of file) y
  start_inside x y v w ey ew ev h = rw (ey, ew, ev) ((accepted_well_formed file ix.accepted).start_inside x h)

  pub actions_few : (a : ℕ) → a ≡ A (task_of file) → a ≤ max_actions
  actions_few a e = rw e (accepted_well_formed file ix.accepted).actions_few
