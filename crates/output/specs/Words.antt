-- Words of a line: what their bytes say.
-- Assumes nothing.
use Rattle.std.specs.Prelude.{ℕ, ◌-◌, min, cond, not, List, length, take, Result, Ok, Err}
use Rattle.rules.specs.Counting.{first}
use Rattle.rules.specs.Limits.{max_digits}
use Rattle.rules.specs.File.{byte}
use Rattle.rules.specs.Lines.{is_digit, is_negative, sign_bytes, digits, reach, is_number, value_from, variable_of}
use Rattle.output.specs.declared.words.Number.{Number}

-- how many digits a text begins with, six at most
unfoldable pub digit_run : List ℕ → ℕ
digit_run s = min max_digits (first (length s) (λ i. not (is_digit (byte s i))))

-- the value of the digits among the bytes of a word that can begin a number
unfoldable pub reached_value : List ℕ → ℕ
reached_value w = value_from 0 (take (reach w - sign_bytes w) (digits w))

-- a number with its sign, or how far a word could be one
unfoldable pub word_of : List ℕ → Result Number ℕ
word_of w = cond (is_number w) (Ok (record { variable = variable_of w; negative = is_negative w })) (Err (reach w))
