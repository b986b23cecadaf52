-- A bound under which numbers of variables are far from the end of a word.
-- Assumes nothing.
use Rattle.std.specs.Prelude.{ℕ}

abbrev pub most_variables : ℕ
most_variables = 4294967296
