-- A stretch of variables: `many` of them, the first one `from`.
-- Assumes nothing.
use Rattle.std.specs.Prelude.{ℕ, ◌+◌, ◌≤◌, ◌<◌, ◌≡◌, Bool, true, false, cond}
use Rattle.rules.specs.Counting.{sum_to}
use Rattle.rules.specs.Rows.{word_bits, bit_of}

-- ---- in one word

-- how many of the lowest bits are set
unfoldable pub set_below : ℕ → ℕ → ℕ
set_below w size = sum_to size (λ i. cond (bit_of w i) 1 0)

-- the lowest set bit; the word's width where none is
pub record LowestSet (w r : ℕ) : Type 0 where
  pub within : r ≤ word_bits
  pub below : (i : ℕ) → i < r → bit_of w i ≡ false
  pub here : r < word_bits → bit_of w r ≡ true

-- ---- in a row

-- how many are set
unfoldable pub count_set : (ℕ → Bool) → ℕ → ℕ → ℕ
count_set is_set from many = sum_to many (λ i. cond (is_set (from + i)) 1 0)
