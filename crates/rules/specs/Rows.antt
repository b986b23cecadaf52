-- Rows of bits: 64 to a word from the lowest bit up, variable 1 first; two rows say which variables are given and which are true.
-- Assumes nothing.
use Rattle.std.specs.Prelude.{ℕ, ◌+◌, ◌-◌, ◌*◌, ◌/◌, ◌%◌, ◌^◌, Bool, true, false, cond, eqb, length, get_or, set, drop}
use mathlib.Core.List.{List, ◌++◌, foldl}
use Rattle.rules.specs.Counting.{sum_to, table}
use Rattle.rules.specs.Families.{Literal, plus, minus}

abbrev pub word_bits : ℕ
word_bits = 64

-- the words that m bits need
abbrev pub words_for : ℕ → ℕ
words_for m = (m + (word_bits - 1)) / word_bits

-- bit j of a word
abbrev pub bit_of : ℕ → ℕ → Bool
bit_of w j = eqb (w / 2 ^ j % 2) 1

-- the word with bit j set so
abbrev pub with_bit : ℕ → ℕ → Bool → ℕ
with_bit w j b = w - w / 2 ^ j % 2 * 2 ^ j + cond b (2 ^ j) 0

-- the bit of variable v, from 1
unfoldable pub bit_of_variable : List ℕ → ℕ → Bool
bit_of_variable row v = bit_of (get_or row ((v - 1) / word_bits) 0) ((v - 1) % word_bits)

unfoldable pub with_variable : List ℕ → ℕ → Bool → List ℕ
with_variable row v b = set row ((v - 1) / word_bits) (with_bit (get_or row ((v - 1) / word_bits) 0) ((v - 1) % word_bits) b)

pub record Rows : Type 0 where
  pub given : List ℕ
  pub is_true : List ℕ

-- storing a variable writes both its bits
unfoldable pub store : Rows → Literal → Rows
store rows (plus v) = record { given = with_variable rows.given v true; is_true = with_variable rows.is_true v true }
store rows (minus v) = record { given = with_variable rows.given v true; is_true = with_variable rows.is_true v false }

unfoldable pub store_all : Rows → List Literal → Rows
store_all rows ls = foldl store rows ls

-- bits as words, unused high bits of the last word 0
unfoldable pub packed : List Bool → List ℕ
packed bits = table (words_for (length bits)) (λ j. sum_to word_bits (λ i. cond (get_or bits (word_bits * j + i) false) (2 ^ i) 0))

-- the row with its first words written, those behind untouched
unfoldable pub over_row : List ℕ → List ℕ → List ℕ
over_row words row = words ++ drop (length words) row
