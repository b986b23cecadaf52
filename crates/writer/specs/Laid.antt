-- A task file of four bodies: its contents, then the bodies one behind the other.
-- Assumes nothing.
use Rattle.std.specs.Prelude.{ℕ, ◌+◌, List, [], ◌∷◌, ◌++◌, length}
use Rattle.rules.specs.Limits.{contents_bytes}
use Rattle.rules.specs.Counting.{joined}
use Rattle.rules.specs.File.{bytes16, contents_from}

unfoldable pub laid_out : (sizes start goal actions : List ℕ) → List ℕ
laid_out sizes start goal actions =
    contents_from contents_bytes (sizes ∷ start ∷ goal ∷ actions ∷ []) ++ joined (sizes ∷ start ∷ goal ∷ actions ∷ [])

-- its length, from those of the bodies
abbrev pub file_length : (sizes start goal actions : ℕ) → ℕ
file_length sizes start goal actions = contents_bytes + sizes + start + goal + actions

-- a row of the contents
unfoldable pub row : (start len : ℕ) → List ℕ
row start len = bytes16 start ++ bytes16 len

-- the rows of two bodies
unfoldable pub rows : (start first second : ℕ) → List ℕ
rows start first second = row start first ++ row (start + first) second

-- the contents of bodies of these lengths
unfoldable pub contents_by : (sizes start goal actions : ℕ) → List ℕ
contents_by sizes start goal actions = rows contents_bytes sizes start ++ rows (contents_bytes + sizes + start) goal actions

-- the contents and the first two bodies
unfoldable pub half : (sizes start : List ℕ) → (goal actions : ℕ) → List ℕ
half sizes start goal actions = contents_by (length sizes) (length start) goal actions ++ (sizes ++ start)
