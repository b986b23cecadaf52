-- The header of two counts.
-- Assumes nothing.
use Rattle.std.specs.Prelude.{ℕ, ◌+◌, ◌*◌, List, [], ◌∷◌, ◌++◌}
use Rattle.rules.specs.Text.{ascii, lf, space, decimal}

abbrev pub header_start : List ℕ
header_start = ascii "p cnf "

abbrev pub start_length : ℕ
start_length = 6

unfoldable pub header_text : (variables clauses : ℕ) → List ℕ
header_text variables clauses = header_start ++ decimal variables ++ (space ∷ []) ++ decimal clauses ++ (lf ∷ [])

-- room that surely suffices: for a count, eight digits and the byte behind them; for a header
abbrev pub number_room : ℕ
number_room = 9

abbrev pub header_room : ℕ
header_room = start_length + 2 * number_room
