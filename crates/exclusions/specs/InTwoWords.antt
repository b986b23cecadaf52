-- A line in two words of eight bytes, which overlap where it has less than sixteen.
-- Assumes nothing.
use Rattle.std.specs.Prelude.{ℕ, ◌+◌, ◌-◌, ◌*◌, ◌^◌, List, [], ◌∷◌, ◌++◌, length, take, drop}
use Rattle.rules.specs.Limits.{byte_values}
use Rattle.rules.specs.Counting.{for_each}
use Rattle.rules.specs.Text.{lf, space, dash, digit0, decimal}
use Rattle.digits.specs.Word.{in_word, low_bytes}

abbrev pub word_bytes : ℕ
word_bytes = 8

-- a line of so many bytes: the word of its last eight stands at its end, and hides what it meets of the first word
unfoldable pub two_words : (head line tail : ℕ) → List ℕ
two_words head line tail = take (line - word_bytes) (low_bytes word_bytes head) ++ low_bytes word_bytes tail

-- one more in the last digit, which is the fifth byte of a line's last eight
abbrev pub one_more : ℕ
one_more = byte_values ^ 4

-- n lines that differ in the last digit only
unfoldable pub run_text : (head line tail n : ℕ) → List ℕ
run_text head line tail n = for_each n (λ i. two_words head line (tail + one_more * i))

-- ---- of the line "-p -q 0"

-- what stands between the numbers, and behind the second
abbrev pub between : List ℕ
between = space ∷ dash ∷ []

abbrev pub ending : List ℕ
ending = space ∷ digit0 ∷ lf ∷ []

-- the bytes of a line beside its digits; the most digits of a number; the least of q here, and the least number that has so many
abbrev pub signs : ℕ
signs = 6

abbrev pub number_digits : ℕ
number_digits = 5

abbrev pub least_digits : ℕ
least_digits = 3

abbrev pub three_digits : ℕ
three_digits = 100

-- its beginning, to where q begins
unfoldable pub head_text : ℕ → List ℕ
head_text p = (dash ∷ decimal p) ++ between

-- the last eight bytes, for q of three to five digits
unfoldable pub tail_text : ℕ → List ℕ
tail_text q = drop (length (decimal q) - least_digits) between ++ (decimal q ++ ending)

unfoldable pub head_word : ℕ → ℕ
head_word p = in_word (head_text p) 0

unfoldable pub tail_word : ℕ → ℕ
tail_word q = in_word (tail_text q) 0
