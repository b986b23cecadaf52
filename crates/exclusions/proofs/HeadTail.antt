-- The two words of a line: its beginning, and its last eight bytes.
-- Assumes nothing.
use mathlib.Core.Path.{◌≡◌, refl, sym, ap, ◌∙◌}
use mathlib.Core.List.{List, [], ◌∷◌, ◌++◌}
use Prim.Native.Nat.{ℕ, suc, ◌+◌, ◌-◌, ◌*◌, ◌^◌, ◌≤◌, ◌<◌}
use native.Mathlib.Omega.{arith}
use native.Mathlib.Nat.{lt_of_lt_of_le, mul-le-mul_right, pow-le-pow_right, pow-suc, mul_right_comm}
use lib.Dec.{lit<}
use mir.Syntax.{w64}
use mir.Val.{Fits}
use lib.ListN.{length, drop}
use Rattle.rules.specs.Limits.{byte_values, max_n}
use Rattle.rules.specs.Text.{dash, decimal}
use Rattle.rules.proofs.Decimal.{decimal_few, decimal_length}
use Rattle.digits.specs.Word.{in_word}
use Rattle.digits.proofs.InWords.{word_fits, decimal_bytes}
use Rattle.exclusions.specs.InTwoWords.{between, ending, head_text, tail_text, head_word, tail_word}

-- ---- how many digits

pub five_digits : (q : ℕ) → 10000 ≤ q → q ≤ max_n → 5 ≡ length (decimal q)
five_digits q h l = sym (decimal_length 4 q (omega arith) (omega arith))

pub four_digits : (q : ℕ) → 1000 ≤ q → q < 10000 → 4 ≡ length (decimal q)
four_digits q h l = sym (decimal_length 3 q (omega arith) (omega arith))

pub three_digits_lem : (q : ℕ) → 100 ≤ q → q < 1000 → 3 ≡ length (decimal q)
three_digits_lem q h l = sym (decimal_length 2 q (omega arith) (omega arith))

-- ---- numbers in words

pub in_word-append : (x y : List ℕ) (high : ℕ) → in_word (x ++ y) high ≡ in_word x (in_word y high)
unfolding in_word
in_word-append [] y high = refl
in_word-append (b ∷ x) y high = ap (λ w. b + byte_values * w) (in_word-append x y high)

pub in_word-add : (x : List ℕ) (high more : ℕ) → in_word x (high + more) ≡ in_word x high + byte_values ^ length x * more
unfolding in_word
in_word-add [] high more = omega arith
in_word-add (b ∷ x) high more =
    let e : byte_values ^ suc (length x) * more ≡ byte_values ^ length x * more * byte_values =
    ap (λ p. p * more) (pow-suc byte_values (length x)) ∙ mul_right_comm (byte_values ^ length x) byte_values more in
    rw e (omega (arith, in_word-add x high more))

-- a number below a power of ten, with a high part below most
word_below : (digits m high most : ℕ) → m < 10 ^ suc digits → high < most → in_word (decimal m) high < byte_values ^ suc digits * most
word_below digits m high most h l =
    lt_of_lt_of_le (word_fits (decimal m) high most (decimal_bytes m) l) (mul-le-mul_right most (pow-le-pow_right {n = byte_values} (lit< tt) (decimal_few digits m h)))

-- ---- the beginning

abbrev between_word : ℕ
between_word = 11552

abbrev pub ending_word : ℕ
ending_word = 667680

between_word_lem : in_word between 0 ≡ between_word
unfolding in_word
between_word_lem = refl

ending_word_lem : in_word ending 0 ≡ ending_word
unfolding in_word
ending_word_lem = refl

pub head_fits : (p : ℕ) → p ≤ max_n → in_word (decimal p) between_word < 2 ^ 64
head_fits p h = omega (arith, word_below 4 p between_word (byte_values ^ 2) (omega arith) (omega arith))

pub head_times : (p w : ℕ) → p ≤ max_n → w ≡ in_word (decimal p) between_word → Fits w64 (byte_values * w)
head_times p w h e = record { fits = omega (arith, word_below 4 p between_word (byte_values ^ 2) (omega arith) (omega arith)) }

pub head_sum : (p w : ℕ) → p ≤ max_n → w ≡ in_word (decimal p) between_word → Fits w64 (dash + byte_values * w)
head_sum p w h e = record { fits = omega (arith, word_below 4 p between_word (byte_values ^ 2) (omega arith) (omega arith)) }

pub head_made : (p w : ℕ) → w ≡ in_word (decimal p) between_word → dash + byte_values * w ≡ head_word p
unfolding head_word head_text in_word
head_made p w e = rw e (ap (λ r. dash + byte_values * r) (sym (in_word-append (decimal p) between 0 ∙ ap (in_word (decimal p)) between_word_lem)))

-- ---- the last eight bytes

pub tail_fits : (q : ℕ) → q ≤ max_n → in_word (decimal q) ending_word < 2 ^ 64
tail_fits q h = omega (arith, word_below 4 q ending_word (byte_values ^ 3) (omega arith) (omega arith))

pub tail_times4 : (q w : ℕ) → q < 10000 → w ≡ in_word (decimal q) ending_word → Fits w64 (byte_values * w)
tail_times4 q w h e = record { fits = omega (arith, word_below 3 q ending_word (byte_values ^ 3) (omega arith) (omega arith)) }

pub tail_sum4 : (q w : ℕ) → q < 10000 → w ≡ in_word (decimal q) ending_word → Fits w64 (dash + byte_values * w)
tail_sum4 q w h e = record { fits = omega (arith, word_below 3 q ending_word (byte_values ^ 3) (omega arith) (omega arith)) }

pub tail_times3 : (q w : ℕ) → q < 1000 → w ≡ in_word (decimal q) ending_word → Fits w64 (byte_values * byte_values * w)
tail_times3 q w h e = record { fits = omega (arith, word_below 2 q ending_word (byte_values ^ 3) (omega arith) (omega arith)) }

pub tail_sum3 : (q w : ℕ) → q < 1000 → w ≡ in_word (decimal q) ending_word → Fits w64 (between_word + byte_values * byte_values * w)
tail_sum3 q w h e = record { fits = omega (arith, word_below 2 q ending_word (byte_values ^ 3) (omega arith) (omega arith)) }

-- what stands before the digits in the last eight bytes
abbrev pub lead : ℕ → List ℕ
lead q = drop (length (decimal q) - 3) between

pub by_lead : (q : ℕ) (x : List ℕ) → lead q ≡ x → tail_word q ≡ in_word x (in_word (decimal q) ending_word)
unfolding tail_word tail_text
by_lead q x e =
    ap (λ r. in_word (r ++ (decimal q ++ ending)) 0) e
    ∙ in_word-append x (decimal q ++ ending) 0
    ∙ ap (in_word x) (in_word-append (decimal q) ending 0 ∙ ap (in_word (decimal q)) ending_word_lem)

by_length : (q n : ℕ) → n ≡ length (decimal q) → lead q ≡ drop (n - 3) between
by_length q n e = ap (λ n. drop (n - 3) between) (sym e)

pub tail_made5 : (q w : ℕ) → 10000 ≤ q → q ≤ max_n → w ≡ in_word (decimal q) ending_word → w ≡ tail_word q
unfolding in_word
tail_made5 q w h l e = e ∙ sym (by_lead q [] (by_length q 5 (five_digits q h l)))

pub tail_made4 : (q w : ℕ) → 1000 ≤ q → q < 10000 → w ≡ in_word (decimal q) ending_word → dash + byte_values * w ≡ tail_word q
unfolding in_word
tail_made4 q w h l e = ap (λ w. dash + byte_values * w) e ∙ sym (by_lead q (dash ∷ []) (by_length q 4 (four_digits q h l)))

pub tail_made3 : (q w : ℕ) → 100 ≤ q → q < 1000 → w ≡ in_word (decimal q) ending_word → between_word + byte_values * byte_values * w ≡ tail_word q
unfolding in_word
tail_made3 q w h l e = omega (arith, by_lead q between (by_length q 3 (three_digits_lem q h l)))
