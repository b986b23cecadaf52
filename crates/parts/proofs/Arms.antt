-- The arms of the choice by place.
-- Assumes nothing.
use mathlib.Core.Path.{◌≡◌}
use mathlib.Core.List.{List}
use Prim.Native.Nat.{ℕ, ◌+◌, ◌-◌, ◌≤◌}
use native.Mathlib.Omega.{arith}
use Rattle.rules.specs.File.{task_of}
use Rattle.rules.specs.Calls.{problem_of}
use Rattle.formula.specs.declared.place.Place.{Place}
use Rattle.formula.specs.InFamily.{IsAt, place_number}
use Rattle.lines.specs.Written.{pair_room, line_room}
use Rattle.lines.specs.AtPlace.{RoomFor, PairRoomFor}
use Rattle.parts.specs.Runs.{PutPart}

-- the place of clause c
module _ (file : List ℕ) (k c : ℕ) (p : Place) (at : IsAt (problem_of file k) c p) where
  pub at_room : (from room : ℕ) → from ≤ room → line_room ≤ room - from → RoomFor file k p from room
  unfolding problem_of
  at_room from room h enough = record { inside = at.inside; enough = omega arith }

  pub at_part : (before after : List ℕ) (from lines end : ℕ) → PutPart file k (place_number (task_of file) k p) before from lines after end
      → PutPart file k c before from lines after end
  unfolding problem_of
  at_part before after from lines end q =
      let number : c ≡ place_number (task_of file) k p = at.number in
      rw number q

-- an arm
module _ (file : List ℕ) (k c : ℕ) (place p : Place) (e : place ≡ p) (at : IsAt (problem_of file k) c place) where
  pub arm_at : IsAt (problem_of file k) c p
  arm_at = rw e at at

  pub arm_room : (from room : ℕ) → from + pair_room ≤ room → PairRoomFor file k p from room
  unfolding problem_of
  arm_room from room h = record { inside = arm_at.inside; enough = h }

  pub arm_part : (before after : List ℕ) (from lines end : ℕ) → PutPart file k (place_number (task_of file) k p) before from lines after end
      → PutPart file k c before from lines after end
  arm_part = at_part file k c p arm_at
