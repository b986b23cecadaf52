-- A bound on the numbers written: ten times as much still fits a word.
-- Assumes nothing.
use Rattle.std.specs.Prelude.{ℕ, ◌^◌}

abbrev pub most_digits : ℕ
most_digits = 18

abbrev pub past_numbers : ℕ
past_numbers = 10 ^ most_digits
