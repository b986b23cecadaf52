-- Parts of what is printed, and room that is enough for whatever is printed.
-- Assumes nothing.
use Rattle.std.specs.Prelude.{ℕ, ◌+◌, ◌*◌, List, [], ◌∷◌, ◌++◌}
use Rattle.rules.specs.Text.{ascii, decimal}

unfoldable pub ended : ℕ → ℕ → List ℕ
ended m b = decimal m ++ (b ∷ [])

-- what the line of a refusal begins with
unfoldable pub refused_word : List ℕ
refused_word = ascii "refused "

-- a number of 64 bits has twenty digits at most
abbrev pub number_room : ℕ
number_room = 20

abbrev pub ended_room : ℕ
ended_room = number_room + 1

-- eight bytes, and two numbers
abbrev pub refusal_room : ℕ
refusal_room = 8 + 2 * ended_room
