-- Pieces of a text between separators, as its lines and the words of a line: where one ends, and the pieces that are left behind it.
-- Assumes nothing.
use Rattle.std.specs.Prelude.{ℕ, suc, ◌+◌, ◌≤◌, cond, ◌≡◌, List, [], ◌∷◌, eqb, length, drop}
use Rattle.rules.specs.Text.{space}
use Rattle.rules.specs.Lines.{pieces}

-- how many bytes stand before the first separator, or before the end
unfoldable pub length_until : (separator : ℕ) → List ℕ → ℕ
length_until separator [] = 0
length_until separator (b ∷ s) = cond (eqb b separator) 0 (suc (length_until separator s))

-- the pieces behind the separator that a text begins with; an empty text has none
unfoldable pub pieces_behind : (separator : ℕ) → List ℕ → List (List ℕ)
pieces_behind separator [] = []
pieces_behind separator (b ∷ s) = pieces separator s

-- the piece of a text that begins at a place ends here
pub record PieceEnds (separator : ℕ) (s : List ℕ) (at end : ℕ) : Type 0 where
  pub behind : at ≤ end
  pub within : end ≤ length s
  pub is : end ≡ at + length_until separator (drop at s)

-- the word of a line that begins at a place ends here
abbrev pub EndsAt : (line : List ℕ) (at end : ℕ) → Type 0
EndsAt line at end = PieceEnds space line at end

-- so many bytes have a value that fits a number, whatever they are
abbrev pub most_digits : ℕ
most_digits = 7
