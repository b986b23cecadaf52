-- Laws of whole words: digits of words put together by `&`, `|` and `^`, and the word of both rows.
-- Assumes nothing.
use mathlib.Core.Path.{◌≡◌, refl, sym, ap, ap₂, ◌∙◌}
use mathlib.Core.Bool.{Bool, true, false, cond}
use mathlib.Core.List.{List}
use Prim.Native.Nat.{ℕ, suc, ◌+◌, ◌-◌, ◌*◌, ◌/◌, ◌%◌, ◌^◌, ◌<◌, min, max}
use native.Mathlib.Omega.{arith}
use native.Mathlib.Nat.{pow-suc}
use lib.Bits.{bit_and, bit_or, bit_xor, differ, and_step, or_step, xor_step, and_shr, or_shr, xor_shr}
use lib.Pow.{high, ones_lt, ones_split, suc_ones}
use Rattle.rules.specs.Rows.{bit_of, bit_of_variable, word_bits}
use Rattle.rows.specs.Bits.{counts_true, counted_word}
use Rattle.rows.specs.Lent.{lent}
use Rattle.rows.proofs.Bits.{digit, one, digit_bit, bit_digit}

-- ---- a word with all bits set

power_even : (t : ℕ) → (2 ^ suc t - 1) % 2 ≡ 1
power_even t = omega (arith, pow-suc 2 t, suc_ones t)

full_digit : (k j : ℕ) → j < k → digit (2 ^ k - 1) j ≡ 1
full_digit k j h =
    let t : ℕ = k - suc j in
    let e : k ≡ suc t + j = omega arith in
    ap (λ k. digit (2 ^ k - 1) j) e
    ∙ ap (λ w. digit w j) (ones_split (suc t) j)
    ∙ ap (λ q. q % 2) (high (2 ^ suc t - 1) j (ones_lt j))
    ∙ power_even t

-- ---- digits of two words put together, digit by digit

module _ (op digits : ℕ → ℕ → ℕ) (shr : (v w j : ℕ) → op v w / 2 ^ j ≡ op (v / 2 ^ j) (w / 2 ^ j))
    (step : (v w : ℕ) → op v w ≡ op (v / 2) (w / 2) * 2 + digits (v % 2) (w % 2)) where
  digit_of : (v w j a b : ℕ) → digit v j ≡ a → digit w j ≡ b → digits a b < 2 → digit (op v w) j ≡ digits a b
  digit_of v w j a b d e l =
      ap (λ q. q % 2) (shr v w j)
      ∙ lowest _ (op (v / 2 ^ j / 2) (w / 2 ^ j / 2)) (step (v / 2 ^ j) (w / 2 ^ j) ∙ ap₂ (λ x y. op (v / 2 ^ j / 2) (w / 2 ^ j / 2) * 2 + digits x y) d e)
    where
      lowest : (q h : ℕ) → q ≡ h * 2 + digits a b → q % 2 ≡ digits a b
      lowest q h e = omega arith

-- ---- the word of both rows

counted_digit : (unnamed g t : Bool) (given is_true j : ℕ) → digit given j ≡ one g → digit is_true j ≡ one t → j < word_bits
    → digit (counted_word unnamed given is_true) j ≡ one (cond g t unnamed)
unfolding counted_word
counted_digit false g t given is_true j d e l = digit_of bit_and min and_shr and_step given is_true j (one g) (one t) d e (omega arith) ∙ both g t
  where
    both : (g t : Bool) → min (one g) (one t) ≡ one (cond g t false)
    both true true = refl
    both true false = refl
    both false true = refl
    both false false = refl
counted_digit true g t given is_true j d e l =
    digit_of bit_or max or_shr or_step is_true (bit_xor given (2 ^ word_bits - 1)) j (one t) (differ (one g) 1) e
    (digit_of bit_xor differ xor_shr xor_step given (2 ^ word_bits - 1) j (one g) 1 d (full_digit word_bits j l) (other g)) (omega (arith, other g))
    ∙ together g t
  where
    other : (g : Bool) → differ (one g) 1 < 2
    other true = omega arith
    other false = omega arith

    together : (g t : Bool) → max (one t) (differ (one g) 1) ≡ one (cond g t true)
    together true true = refl
    together true false = refl
    together false true = refl
    together false false = refl

-- a bit of that word is the truth of what is given, and `unnamed` of what is not
pub counted_bit : (unnamed : Bool) (given is_true j : ℕ) → j < word_bits → bit_of (counted_word unnamed given is_true) j ≡ cond (bit_of given j) (bit_of is_true j) unnamed
counted_bit unnamed given is_true j l =
    digit_bit (counted_word unnamed given is_true) j _
    (counted_digit unnamed (bit_of given j) (bit_of is_true j) given is_true j (bit_digit given j _ refl) (bit_digit is_true j _ refl) l)

pub counted_as_true : (unnamed : Bool) (given is_true : ℕ) → unnamed ≡ true → bit_or is_true (bit_xor given (2 ^ word_bits - 1)) ≡ counted_word unnamed given is_true
unfolding counted_word
counted_as_true unnamed given is_true e = rw e refl

pub counted_as_false : (unnamed : Bool) (given is_true : ℕ) → unnamed ≡ false → bit_and given is_true ≡ counted_word unnamed given is_true
unfolding counted_word
counted_as_false unnamed given is_true e = rw e refl

-- ---- one variable of both rows

module _ (given is_true : List ℕ) (v : ℕ) (unnamed b : Bool) (e : b ≡ bit_of_variable given v) where
  pub counts_named : (t : Bool) → b ≡ true → t ≡ bit_of_variable is_true v → t ≡ counts_true unnamed (lent given is_true) v
  unfolding counts_true
  counts_named t h f = f ∙ ap (λ g. cond g (bit_of_variable is_true v) unnamed) (sym h ∙ e)

  pub counts_unnamed : b ≡ false → unnamed ≡ counts_true unnamed (lent given is_true) v
  unfolding counts_true
  counts_unnamed h = ap (λ g. cond g (bit_of_variable is_true v) unnamed) (sym h ∙ e)
