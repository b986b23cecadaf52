-- Bits of a word: a word that is a sum of powers of two has just those bits, and a row of packed bits reads back as them.
-- Assumes nothing.
use mathlib.Core.Path.{◌≡◌, refl, sym, ap, ◌∙◌}
use mathlib.Core.Logic.{⊎_elim}
use mathlib.Core.Bool.{Bool, true, false, cond}
use mathlib.Core.List.{List, ◌++◌}
use Prim.Native.Nat.{ℕ, zero, suc, ◌+◌, ◌-◌, ◌*◌, ◌/◌, ◌%◌, ◌^◌, ◌≤◌, ◌<◌}
use native.Mathlib.Omega.{arith}
use native.Mathlib.Nat.{pow-suc, pow-succ', mul_assoc, zero-mul, one-mul, add-mul-div_right, add-mul-mod_self_right}
use lib.Dec.{eqb}
use lib.Pow.{pow_pos, pow-add, high}
use lib.ListN.{length, get_or, drop, get_or-append}
use Rattle.rules.specs.Counting.{sum_to, table}
use Rattle.rules.specs.Rows.{word_bits, words_for, bit_of, bit_of_variable, packed, over_row}
use Rattle.rules.proofs.Bools.{below_suc}
use Rattle.rules.proofs.Counting.{length-table, get_or-table}

-- the powers of two at the places where b is true
abbrev pub powers : (ℕ → Bool) → ℕ → ℕ
powers b i = cond (b i) (2 ^ i) 0

power_as : (b : Bool) (i : ℕ) → cond b (2 ^ i) 0 ≡ cond b 1 0 * 2 ^ i
power_as true i = sym (one-mul (2 ^ i))
power_as false i = sym (zero-mul (2 ^ i))

power_most : (b : Bool) (i : ℕ) → cond b (2 ^ i) 0 ≤ 2 ^ i
power_most true i = omega arith
power_most false i = omega arith

sum_below : (b : ℕ → Bool) (m : ℕ) → sum_to m (powers b) < 2 ^ m
unfolding sum_to
sum_below b zero = pow_pos 0
sum_below b (suc m) = omega (arith, sum_below b m, power_most (b m) m, pow-suc 2 m)

-- adding a multiple of a higher power leaves a digit as it is
digit_kept : (x c m j : ℕ) → j < m → (x + c * 2 ^ m) / 2 ^ j % 2 ≡ x / 2 ^ j % 2
digit_kept x c m j h =
    let e : c * 2 ^ m ≡ c * 2 ^ (m - suc j) * 2 * 2 ^ j =
    ap (λ i. c * 2 ^ i) (omega arith)
    ∙ ap (λ y. c * y) (pow-add 2 (m - suc j) (suc j) ∙ ap (λ y. 2 ^ (m - suc j) * y) (pow-succ' 2 j))
    ∙ sym (mul_assoc c (2 ^ (m - suc j)) (2 * 2 ^ j))
    ∙ sym (mul_assoc (c * 2 ^ (m - suc j)) 2 (2 ^ j)) in
    ap (λ y. (x + y) / 2 ^ j % 2) e
    ∙ ap (λ y. y % 2) (add-mul-div_right x (c * 2 ^ (m - suc j) * 2) (pow_pos j))
    ∙ add-mul-mod_self_right (x / 2 ^ j) (c * 2 ^ (m - suc j)) 2

-- digit j of such a sum
digit_of_sum : (b : ℕ → Bool) (m j : ℕ) → j < m → sum_to m (powers b) / 2 ^ j % 2 ≡ cond (b j) 1 0
unfolding sum_to
digit_of_sum b zero j h = absurd (omega arith)
digit_of_sum b (suc m) j h =
    ap (λ y. (sum_to m (powers b) + y) / 2 ^ j % 2) (power_as (b m) m)
    ∙ ⊎_elim (λ l. digit_kept (sum_to m (powers b)) (cond (b m) 1 0) m j l ∙ digit_of_sum b m j l)
    (λ e. ap (λ i. (sum_to m (powers b) + cond (b m) 1 0 * 2 ^ m) / 2 ^ i % 2) e ∙ top ∙ ap (λ i. cond (b i) 1 0) (sym e))
    (below_suc j m h)
  where
    small : (t : Bool) → cond t 1 0 % 2 ≡ cond t 1 0
    small true = refl
    small false = refl

    top : (sum_to m (powers b) + cond (b m) 1 0 * 2 ^ m) / 2 ^ m % 2 ≡ cond (b m) 1 0
    top =
        ap (λ y. y / 2 ^ m % 2) (omega arith)
        ∙ ap (λ y. y % 2) (high (cond (b m) 1 0) m (sum_below b m))
        ∙ small (b m)

pub bit_of-sum : (b : ℕ → Bool) (m j : ℕ) → j < m → bit_of (sum_to m (powers b)) j ≡ b j
bit_of-sum b m j h = ap (λ y. eqb y 1) (digit_of_sum b m j h) ∙ one_or_none (b j)
  where
    one_or_none : (t : Bool) → eqb (cond t 1 0) 1 ≡ t
    one_or_none true = refl
    one_or_none false = refl

-- ---- rows

-- the word of bit i is among those that m bits need
pub word_there : (m i : ℕ) → i < m → i / word_bits < words_for m
word_there m i h = omega arith

pub length-packed : (bits : List Bool) → length (packed bits) ≡ words_for (length bits)
unfolding packed
length-packed bits = length-table (words_for (length bits)) _

-- packed bits read back, whatever stands behind them
pub packed_bit : (bits : List Bool) (row : List ℕ) (i : ℕ) → i < length bits → bit_of_variable (over_row (packed bits) row) (suc i) ≡ get_or bits i false
unfolding bit_of_variable over_row packed
packed_bit bits row i h =
    let word : ℕ → ℕ = λ j. sum_to word_bits (powers (λ t. get_or bits (word_bits * j + t) false)) in
    let j : ℕ = i / word_bits in
    ap (λ p. bit_of (get_or (table (words_for (length bits)) word ++ drop (length (table (words_for (length bits)) word)) row) (p / word_bits) 0) (p % word_bits))
    (omega arith)
    ∙ ap (λ w. bit_of w (i % word_bits))
    (get_or-append (table (words_for (length bits)) word) _ 0 j (omega (arith, length-table (words_for (length bits)) word, word_there (length bits) i h))
    ∙ get_or-table (words_for (length bits)) word 0 j (word_there (length bits) i h))
    ∙ bit_of-sum (λ t. get_or bits (word_bits * j + t) false) word_bits (i % word_bits) (omega arith)
    ∙ ap (λ p. get_or bits p false) (omega arith)
