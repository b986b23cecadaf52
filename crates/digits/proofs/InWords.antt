-- Laws of text in a word: it is read back byte by byte, and it fits where its bytes do.
-- Assumes nothing.
use mathlib.Core.Path.{◌≡◌, refl, sym, ap, ap₂, ◌∙◌}
use mathlib.Core.Bool.{true}
use mathlib.Core.List.{List, [], ◌∷◌, ◌++◌}
use Prim.Native.Nat.{ℕ, zero, suc, ◌+◌, ◌*◌, ◌/◌, ◌%◌, ◌^◌, ◌≤◌, ◌<◌}
use native.Mathlib.Omega.{arith}
use native.Mathlib.Nat.{zero-add, suc-add, pow-suc, pow-le-pow_right, mul_right_comm, div-div-eq-div-mul}
use borrow.Author.Tests.{ltb-true, lt-ltb}
use lib.Dec.{lit<}
use lib.ListN.{length}
use mir.Syntax.{w64}
use Rattle.std.specs.Int.{bytes_low_first, to_le_bytes}
use Rattle.rules.specs.Limits.{byte_values}
use Rattle.rules.specs.Counting.{every}
use Rattle.rules.specs.Text.{digit0, decimal}
use Rattle.rules.proofs.Decimal.{decimal_few, decimal_every}
use Rattle.rules.proofs.Bools.{and_left, and_right}
use Rattle.rules.proofs.Files.{is_byte}
use Rattle.digits.specs.Word.{in_word, low_bytes}

pub length-low : (m w : ℕ) → length (low_bytes m w) ≡ m
unfolding low_bytes
length-low zero w = refl
length-low (suc m) w = ap suc (length-low m (w / byte_values))

pub in_word-more : (x : List ℕ) (b high : ℕ) → in_word (x ++ (b ∷ [])) high ≡ in_word x (b + byte_values * high)
unfolding in_word
in_word-more [] b high = refl
in_word-more (c ∷ x) b high = ap (λ w. c + byte_values * w) (in_word-more x b high)

pub high_within : (x : List ℕ) (high : ℕ) → high ≤ in_word x high
unfolding in_word
high_within [] high = omega arith
high_within (b ∷ x) high = omega (arith, high_within x high)

-- what is in a word is read back, and what is above it follows
pub read_back : (x : List ℕ) (m high : ℕ) → every is_byte x ≡ true → low_bytes (length x + m) (in_word x high) ≡ x ++ low_bytes m high
unfolding in_word low_bytes every
read_back [] m high h = rw (zero-add m)
read_back (b ∷ x) m high h =
    let small : b < byte_values = ltb-true b byte_values (and_left (is_byte b) (every is_byte x) h) in
    let low : (b + byte_values * in_word x high) % byte_values ≡ b = omega arith in
    let rest : (b + byte_values * in_word x high) / byte_values ≡ in_word x high = omega arith in
    rw (suc-add (length x) m, low, rest) (ap (λ r. b ∷ r) (read_back x m high (and_right (is_byte b) (every is_byte x) h)))

-- where high is below most, the whole is below most times the values of as many bytes
pub word_fits : (x : List ℕ) (high most : ℕ) → every is_byte x ≡ true → high < most → in_word x high < byte_values ^ length x * most
unfolding in_word every
word_fits [] high most h l = omega arith
word_fits (b ∷ x) high most h l =
    let small : b < byte_values = ltb-true b byte_values (and_left (is_byte b) (every is_byte x) h) in
    let e : byte_values ^ suc (length x) * most ≡ byte_values ^ length x * most * byte_values =
    ap (λ p. p * most) (pow-suc byte_values (length x)) ∙ mul_right_comm (byte_values ^ length x) byte_values most in
    rw e (omega (arith, word_fits x high most (and_right (is_byte b) (every is_byte x) h) l))

-- ---- numbers

pub decimal_bytes : (m : ℕ) → every is_byte (decimal m) ≡ true
decimal_bytes m = decimal_every is_byte (λ j h. lt-ltb (digit0 + j) byte_values (omega arith)) m

-- seven digits and a byte above them fit
pub number_fits : (m high : ℕ) → m < 10 ^ 7 → high < byte_values → in_word (decimal m) high < 2 ^ 64
number_fits m high h l =
    let few : byte_values ^ length (decimal m) ≤ byte_values ^ 7 = pow-le-pow_right {n = byte_values} (lit< tt) (decimal_few 6 m h) in
    omega (arith, word_fits (decimal m) high byte_values (decimal_bytes m) l)

-- ---- stores

-- a word's bytes as the library's method gives them, from the lowest up
pub bytes_are_low : (i m w : ℕ) → bytes_low_first i m w ≡ low_bytes m (w / byte_values ^ i)
unfolding low_bytes
bytes_are_low i zero w = refl
bytes_are_low zero (suc m) w = ap₂ (λ b r. b ∷ r) (omega arith) (bytes_are_low 1 m w ∙ ap (low_bytes m) (omega arith))
bytes_are_low (suc i) (suc m) w =
    let shifted : w / byte_values ^ suc (suc i) ≡ w / byte_values ^ suc i / byte_values =
    ap (λ p. w / p) (pow-suc byte_values (suc i)) ∙ sym (div-div-eq-div-mul w (byte_values ^ suc i) byte_values) in
    ap (λ r. w / byte_values ^ suc i % byte_values ∷ r) (bytes_are_low (suc (suc i)) m w ∙ ap (low_bytes m) shifted)

pub eight_are_low : (w : ℕ) → to_le_bytes w64 w ≡ low_bytes 8 w
eight_are_low w = bytes_are_low 0 8 w ∙ ap (low_bytes 8) (omega arith)
