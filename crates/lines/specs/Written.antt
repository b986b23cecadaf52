-- Literals as text, and room that surely suffices for them.
-- Assumes nothing.
use Rattle.std.specs.Prelude.{ℕ, ◌+◌, ◌*◌, List, [], ◌∷◌, ◌++◌, map}
use Rattle.rules.specs.Limits.{max_actions, max_literals}
use Rattle.rules.specs.Counting.{joined}
use Rattle.rules.specs.Families.{Literal}
use Rattle.rules.specs.Text.{lf, space, digit0, literal_text}

-- literals, each with a space behind it
unfoldable pub literals : List Literal → List ℕ
literals c = joined (map (λ l. literal_text l ++ (space ∷ [])) c)

abbrev pub line_end : List ℕ
line_end = digit0 ∷ lf ∷ []

-- room that surely suffices: for a literal, a minus, five digits and a space; for the end of a line; for two literals; for any clause
abbrev pub literal_room : ℕ
literal_room = 7

abbrev pub end_room : ℕ
end_room = 2

abbrev pub pair_room : ℕ
pair_room = 2 * literal_room + end_room

abbrev pub supporters_room : ℕ
supporters_room = max_actions * literal_room

abbrev pub line_room : ℕ
line_room = max_literals * literal_room + end_room
