-- The lines of clauses "not i, not j": of two numbers, of a row of numbers, and of the pairs below a count from one of them on.
-- Assumes nothing.
use Rattle.std.specs.Prelude.{ℕ, ◌+◌, ◌*◌, List, [], ◌∷◌, ◌++◌, get_or}
use Rattle.rules.specs.Counting.{for_each, for_pairs}
use Rattle.rules.specs.Families.{minus}
use Rattle.rules.specs.Text.{space, lf, digit0, literal_text, clause_line}

-- the line "-p -q 0"
unfoldable pub exclusion_text : (p q : ℕ) → List ℕ
exclusion_text p q = clause_line (minus p ∷ minus q ∷ [])

-- its parts: each literal with the space behind it, and the line's end
unfoldable pub minus_text : ℕ → List ℕ
minus_text m = literal_text (minus m) ++ (space ∷ [])

unfoldable pub end_text : List ℕ
end_text = digit0 ∷ lf ∷ []

-- such a line with p first for each of n numbers, q the lowest
unfoldable pub row_text : (p q n : ℕ) → List ℕ
row_text p q n = for_each n (λ i. exclusion_text p (q + i))

-- the line of pair r below count, its numbers counted from base on
unfoldable pub exclusion_line : (base count r : ℕ) → List ℕ
exclusion_line base count r = clause_line (get_or (for_pairs count (λ i j. (minus (base + i) ∷ minus (base + j) ∷ []) ∷ [])) r [])

-- the lines of so many pairs, from pair `from` on
unfoldable pub exclusion_lines : (base count from lines : ℕ) → List ℕ
exclusion_lines base count from lines = for_each lines (λ r. exclusion_line base count (from + r))

-- room that surely suffices for a literal, a minus, five digits and a space; for a line's end; for a line
abbrev pub literal_room : ℕ
literal_room = 7

abbrev pub end_room : ℕ
end_room = 2

abbrev pub pair_room : ℕ
pair_room = 2 * literal_room + end_room
