-- Writing over a part of lent room: the part from a place on is new, what stands before and behind it is as it was.
-- Assumes nothing.
use Rattle.std.specs.Prelude.{ℕ, ◌+◌, ◌≡◌, List, ◌++◌, length, take, drop}

module _ {X : Type 0} where
  -- x written over l from place i on
  unfoldable pub over : List X → ℕ → List X → List X
  over l i x = take i l ++ (x ++ drop (i + length x) l)

-- what a writer of text leaves: the text from a place on, nothing else changed; and it answers the place behind the text
pub record Wrote (before : List ℕ) (at : ℕ) (text after : List ℕ) (end : ℕ) : Type 0 where
  pub written : after ≡ over before at text
  pub behind : end ≡ at + length text
