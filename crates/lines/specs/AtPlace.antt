-- The line of the clause at a place.
-- Assumes nothing.
use Rattle.std.specs.Prelude.{ℕ, ◌+◌, ◌≤◌, List}
use Rattle.rules.specs.Problem.{problem}
use Rattle.rules.specs.Text.{clause_line}
use Rattle.rules.specs.File.{task_of}
use Rattle.formula.specs.declared.place.Place.{Place}
use Rattle.formula.specs.Placed.{clause_at}
use Rattle.formula.specs.InFamily.{InRange}
use Rattle.lines.specs.Written.{pair_room, line_room}

unfoldable pub place_line : List ℕ → ℕ → Place → List ℕ
place_line file k place = clause_line (clause_at (problem (task_of file) k) place)

-- a place in range, and from `at` on room for any line
pub record RoomFor (file : List ℕ) (k : ℕ) (place : Place) (at room : ℕ) : Type 0 where
  pub inside : InRange (problem (task_of file) k) place
  pub enough : at + line_room ≤ room

-- a place in range, and from `at` on room for any line of two literals
pub record PairRoomFor (file : List ℕ) (k : ℕ) (place : Place) (at room : ℕ) : Type 0 where
  pub inside : InRange (problem (task_of file) k) place
  pub enough : at + pair_room ≤ room
