-- Positions: what an arm of a match on a line of the format gives is what the definition gives.
-- Assumes nothing.
use Prim.Native.Nat.{ℕ}
use mathlib.Core.Path.{◌≡◌, ◌∙◌}
use Rattle.rules.specs.declared.FormatLine.{FormatLine}
use Rattle.translator.specs.Position.{unless_over, due_in, line_due, moved_on}
use Rattle.translator.specs.declared.position.Position.{Position}

-- ---- the line that is due

pub due_in_lem : (p : Position) (r line behind : FormatLine) (left : ℕ) → p.line ≡ line → r ≡ unless_over left p.line behind
    → unless_over left line behind ≡ due_in line p.inner p.outer → r ≡ line_due p
unfolding line_due
due_in_lem p r line behind left e h k = h ∙ rw e k

-- ---- the position behind a line

pub moved_in : (line w : FormatLine) (m : ℕ) (p r : Position) → line ≡ w → r ≡ moved_on w m p → r ≡ moved_on line m p
moved_in line w m p r e h = rw e h
