-- The bits of variables in two rows, and of variables that stand one behind the other.
-- Assumes nothing.
use Rattle.std.specs.Prelude.{ℕ, ◌+◌, ◌-◌, ◌^◌, Bool, true, false, cond}
use Rattle.std.specs.Int.Bits.{bit_and, bit_or, bit_xor}
use Rattle.rules.specs.Rows.{Rows, word_bits, bit_of_variable}

-- whether a variable counts as true, where one that is not given counts as `unnamed`
unfoldable pub counts_true : (unnamed : Bool) → Rows → ℕ → Bool
counts_true unnamed rows v = cond (bit_of_variable rows.given v) (bit_of_variable rows.is_true v) unnamed

-- the same of all variables of a word
unfoldable pub counted_word : (unnamed : Bool) → (given is_true : ℕ) → ℕ
counted_word false given is_true = bit_and given is_true
counted_word true given is_true = bit_or is_true (bit_xor given (2 ^ word_bits - 1))

-- number i of the variables from `from` on is set
unfoldable pub set_from : (ℕ → Bool) → ℕ → ℕ → Bool
set_from is_set from i = is_set (from + i)
