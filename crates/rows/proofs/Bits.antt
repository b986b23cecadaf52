-- Laws of bits: what writing one bit of a word, or of a row of words, does to that bit and to the others.
-- Assumes nothing.
use mathlib.Core.Path.{◌≡◌, refl, sym, ap, ap₂, ◌∙◌}
use mathlib.Core.Logic.{⊎_elim}
use mathlib.Core.Bool.{Bool, true, false, cond}
use mathlib.Core.List.{List, ◌++◌}
use Prim.Native.Nat.{ℕ, zero, suc, ◌+◌, ◌-◌, ◌*◌, ◌/◌, ◌%◌, ◌^◌, ◌≤◌, ◌<◌}
use native.Mathlib.Omega.{arith}
use native.Mathlib.Numerals.{one-add}
use native.Mathlib.Nat.{pow-suc, mul_assoc, one-mul, zero-mul, le_trans, mul-le-mul_right, div-mul-le_self, mod-le}
use borrow.Author.Tests.{eq-eqb, ne_eqb, eqb-true, eqb-false}
use lib.Dec.{eqb}
use lib.Bits.{bit_and, bit_or, and_high, or_add_and}
use lib.Pow.{shr-shr, pow-add, shl_exact}
use lib.ListN.{length, get_or, set, take, drop, replicate, length-set, length-replicate}
use lib.Seq.{length-take-le, get_or-set_same, get_or-set_other, set-set, set_comm, set-get_or, set_out}
use Rattle.rules.specs.Rows.{bit_of, with_bit, bit_of_variable, with_variable, over_row, word_bits}
use Rattle.rules.proofs.Bools.{either, below_or}

-- ---- one word

-- binary digit j of a word
abbrev pub digit : ℕ → ℕ → ℕ
digit w j = w / 2 ^ j % 2

abbrev pub one : Bool → ℕ
one b = cond b 1 0

pub digit_zero : (w : ℕ) → digit w 0 ≡ w % 2
digit_zero w = omega arith

pub digit_suc : (w j : ℕ) → digit w (suc j) ≡ digit (w / 2) j
digit_suc w j = ap (λ k. w / 2 ^ k % 2) (sym (one-add j)) ∙ ap (λ q. q % 2) (sym (shr-shr w 1 j))

-- a digit's worth is part of the word
pub digit_le : (w j : ℕ) → digit w j * 2 ^ j ≤ w
digit_le w j = le_trans (mul-le-mul_right (2 ^ j) (mod-le (w / 2 ^ j) 2)) (div-mul-le_self w (2 ^ j))

-- the digits above the lowest are those of the half
with_bit-suc : (w j : ℕ) (b : Bool) → with_bit w (suc j) b ≡ with_bit (w / 2) j b * 2 + w % 2
with_bit-suc w j b =
    let worth : digit w (suc j) * 2 ^ suc j ≡ digit (w / 2) j * 2 ^ j * 2 =
    ap₂ (λ d p. d * p) (digit_suc w j) (pow-suc 2 j) ∙ sym (mul_assoc (digit (w / 2) j) (2 ^ j) 2) in
    let part : digit (w / 2) j * 2 ^ j ≤ w / 2 = digit_le (w / 2) j in
    ⊎_elim (λ t. rw t (omega (arith, worth, part, pow-suc 2 j))) (λ t. rw t (omega (arith, worth, part))) (either b)

digit_written : (w j : ℕ) (b : Bool) → digit (with_bit w j b) j ≡ one b
digit_written w zero b = ⊎_elim (λ t. rw t (omega arith)) (λ t. rw t (omega arith)) (either b)
digit_written w (suc j) b =
    digit_suc (with_bit w (suc j) b) j
    ∙ ap (λ x. digit x j) (ap (λ x. x / 2) (with_bit-suc w j b) ∙ omega arith)
    ∙ digit_written (w / 2) j b

digit_kept : (w i j : ℕ) (b : Bool) → (i ≡ j → ⊥) → digit (with_bit w j b) i ≡ digit w i
digit_kept w zero zero b h = absurd (h refl)
digit_kept w zero (suc j) b h = ap (λ x. digit x 0) (with_bit-suc w j b) ∙ omega arith
digit_kept w (suc i) zero b h =
    digit_suc (with_bit w 0 b) i
    ∙ ap (λ x. digit x i) (⊎_elim (λ t. rw t (omega arith)) (λ t. rw t (omega arith)) (either b))
    ∙ sym (digit_suc w i)
digit_kept w (suc i) (suc j) b h =
    digit_suc (with_bit w (suc j) b) i
    ∙ ap (λ x. digit x i) (ap (λ x. x / 2) (with_bit-suc w j b) ∙ omega arith)
    ∙ digit_kept (w / 2) i j b (λ e. h (ap suc e))
    ∙ sym (digit_suc w i)

pub digit_bit : (w j : ℕ) (b : Bool) → digit w j ≡ one b → bit_of w j ≡ b
digit_bit w j true e = eq-eqb _ _ e
digit_bit w j false e = ne_eqb (digit w j) 1 (λ f. omega arith)

pub bit_digit : (w j : ℕ) (b : Bool) → bit_of w j ≡ b → digit w j ≡ one b
bit_digit w j true e = eqb-true (digit w j) 1 e
bit_digit w j false e = let h : digit w j ≡ 1 → ⊥ = eqb-false (digit w j) 1 e in omega (arith, h)

worth_of : (j : ℕ) (b : Bool) → one b * 2 ^ j ≡ cond b (2 ^ j) 0
worth_of j true = one-mul (2 ^ j)
worth_of j false = zero-mul (2 ^ j)

-- a bit that is written back as it was, and two bits written in either order
word_restored : (w j : ℕ) (b c : Bool) → bit_of w j ≡ b → with_bit (with_bit w j c) j b ≡ w
word_restored w j b c e =
    omega (
      arith,
      ap (λ d. d * 2 ^ j) (digit_written w j c) ∙ worth_of j c,
      ap (λ d. d * 2 ^ j) (bit_digit w j b e) ∙ worth_of j b,
      digit_le w j,
    )

word_order : (w i j : ℕ) (b c : Bool) → (i ≡ j → ⊥) → with_bit (with_bit w i b) j c ≡ with_bit (with_bit w j c) i b
word_order w i j b c h =
    omega (
      arith,
      ap (λ d. d * 2 ^ j) (digit_kept w j i b (λ e. h (sym e))),
      ap (λ d. d * 2 ^ i) (digit_kept w i j c h),
      digit_le w i,
      digit_le w j,
      digit_le (with_bit w i b) j,
      digit_le (with_bit w j c) i,
    )

-- by `|` the bit is set, and less its worth it is cleared
shifted : (j : ℕ) → j < word_bits → (1 * 2 ^ j) % 2 ^ word_bits ≡ 2 ^ j
shifted j h = shl_exact 1 j word_bits (omega arith) (omega arith) ∙ one-mul (2 ^ j)

or_sets : (w j : ℕ) → bit_or w (2 ^ j) ≡ with_bit w j true
or_sets w j =
    let common : bit_and w (2 ^ j) ≡ digit w j * 2 ^ j =
    ap (bit_and w) (omega (arith, pow-add 2 1 j)) ∙ and_high w 1 j in
    omega (arith, or_add_and w (2 ^ j), common, digit_le w j)

pub worth_in : (w j : ℕ) → j < word_bits → (1 * 2 ^ j) % 2 ^ word_bits ≤ bit_or w ((1 * 2 ^ j) % 2 ^ word_bits)
worth_in w j h = rw (shifted j h) (omega (arith, or_sets w j))

pub set_is : (w j : ℕ) (b : Bool) → j < word_bits → b ≡ true → bit_or w ((1 * 2 ^ j) % 2 ^ word_bits) ≡ with_bit w j b
set_is w j b h t = rw (shifted j h, t) (or_sets w j)

pub clear_is : (w j : ℕ) (b : Bool) → j < word_bits → b ≡ false
    → bit_or w ((1 * 2 ^ j) % 2 ^ word_bits) - (1 * 2 ^ j) % 2 ^ word_bits ≡ with_bit w j b
clear_is w j b h t = rw (shifted j h, t) (omega (arith, or_sets w j))

-- ---- a row, by word k and bit j

abbrev with_at : List ℕ → ℕ → ℕ → Bool → List ℕ
with_at row k j b = set row k (with_bit (get_or row k 0) j b)

at_behind : (row : List ℕ) (k j : ℕ) (b : Bool) → length row ≤ k → with_at row k j b ≡ row
at_behind row k j b h = set_out row k _ h

-- a word that is written twice
at_twice : (row : List ℕ) (k i j : ℕ) (b c : Bool) → k < length row
    → with_at (with_at row k i b) k j c ≡ set row k (with_bit (with_bit (get_or row k 0) i b) j c)
at_twice row k i j b c h =
    let x : ℕ = with_bit (get_or row k 0) i b in
    ap (λ w. set (set row k x) k (with_bit w j c)) (get_or-set_same row k x 0 h) ∙ set-set row k x (with_bit x j c)

at_behind_twice : (row : List ℕ) (k i j : ℕ) (b c : Bool) → length row ≤ k → with_at (with_at row k i b) k j c ≡ row
at_behind_twice row k i j b c h = ap (λ r. with_at r k j c) (at_behind row k i b h) ∙ at_behind row k j c h

at_restored : (row : List ℕ) (k j : ℕ) (b c : Bool) → bit_of (get_or row k 0) j ≡ b → with_at (with_at row k j c) k j b ≡ row
at_restored row k j b c e =
    ⊎_elim
    (λ l. at_twice row k j j c b l ∙ ap (set row k) (word_restored (get_or row k 0) j b c e) ∙ set-get_or row k 0)
    (λ l. at_behind_twice row k j j c b l)
    (below_or k (length row))

at_order : (row : List ℕ) (k i j : ℕ) (b c : Bool) → (i ≡ j → ⊥) → with_at (with_at row k i b) k j c ≡ with_at (with_at row k j c) k i b
at_order row k i j b c h =
    ⊎_elim
    (λ l. at_twice row k i j b c l ∙ ap (set row k) (word_order (get_or row k 0) i j b c h) ∙ sym (at_twice row k j i c b l))
    (λ l. at_behind_twice row k i j b c l ∙ sym (at_behind_twice row k j i c b l))
    (below_or k (length row))

words_order : (row : List ℕ) (k l i j : ℕ) (b c : Bool) → (k ≡ l → ⊥) → with_at (with_at row k i b) l j c ≡ with_at (with_at row l j c) k i b
words_order row k l i j b c h =
    let x : ℕ = with_bit (get_or row k 0) i b in
    let y : ℕ = with_bit (get_or row l 0) j c in
    ap (λ w. set (set row k x) l (with_bit w j c)) (get_or-set_other row k l x 0 (λ e. h (sym e)))
    ∙ set_comm row k l x y h
    ∙ ap (λ w. set (set row l y) k (with_bit w i b)) (sym (get_or-set_other row l k y 0 h))

at_kept : (row : List ℕ) (k i j : ℕ) (b : Bool) → (i ≡ j → ⊥) → bit_of (get_or (with_at row k j b) k 0) i ≡ bit_of (get_or row k 0) i
at_kept row k i j b h =
    ⊎_elim
    (λ l.
    ap (λ w. bit_of w i) (get_or-set_same row k (with_bit (get_or row k 0) j b) 0 l)
    ∙ ap (λ d. eqb d 1) (digit_kept (get_or row k 0) i j b h))
    (λ l. ap (λ r. bit_of (get_or r k 0) i) (at_behind row k j b l))
    (below_or k (length row))

-- ---- a row, by variables

pub length-with : (row : List ℕ) (v : ℕ) (b : Bool) → length (with_variable row v b) ≡ length row
unfolding with_variable
length-with row v b = length-set row ((v - 1) / word_bits) (with_bit (get_or row ((v - 1) / word_bits) 0) ((v - 1) % word_bits) b)

-- inside the row
pub bit_is : (row : List ℕ) (v w : ℕ) → w ≡ get_or row ((v - 1) / word_bits) 0 → bit_of w ((v - 1) % word_bits) ≡ bit_of_variable row v
unfolding bit_of_variable
bit_is row v w e = ap (λ w. bit_of w ((v - 1) % word_bits)) e

pub with_in : (row : List ℕ) (v w : ℕ) (b : Bool) → w ≡ with_bit (get_or row ((v - 1) / word_bits) 0) ((v - 1) % word_bits) b
    → set row ((v - 1) / word_bits) w ≡ with_variable row v b
unfolding with_variable
with_in row v w b e = ap (set row ((v - 1) / word_bits)) e

-- behind the row there is nothing to write
pub with_behind : (row : List ℕ) (v : ℕ) (b : Bool) → length row ≤ (v - 1) / word_bits → row ≡ with_variable row v b
unfolding with_variable
with_behind row v b h = sym (at_behind row ((v - 1) / word_bits) ((v - 1) % word_bits) b h)

-- the bit that was written, and the others
pub bit_written : (row : List ℕ) (v : ℕ) (b : Bool) → (v - 1) / word_bits < length row → bit_of_variable (with_variable row v b) v ≡ b
unfolding bit_of_variable with_variable
bit_written row v b h =
    let k : ℕ = (v - 1) / word_bits in
    let j : ℕ = (v - 1) % word_bits in
    ap (λ w. bit_of w j) (get_or-set_same row k (with_bit (get_or row k 0) j b) 0 h)
    ∙ digit_bit (with_bit (get_or row k 0) j b) j b (digit_written (get_or row k 0) j b)

-- two variables at different places have different words, or different bits of one
apart : {X : Type 0} (u v : ℕ) → (u - 1 ≡ v - 1 → ⊥)
    → (((u - 1) / word_bits ≡ (v - 1) / word_bits → ⊥) → X)
    → ((u - 1) / word_bits ≡ (v - 1) / word_bits → ((u - 1) % word_bits ≡ (v - 1) % word_bits → ⊥) → X) → X
apart u v h other same =
    ⊎_elim (λ t. same (eqb-true _ _ t) (λ e. h (omega (arith, eqb-true ((u - 1) / word_bits) ((v - 1) / word_bits) t))))
    (λ t. other (eqb-false _ _ t))
    (either (eqb ((u - 1) / word_bits) ((v - 1) / word_bits)))

pub bit_kept : (row : List ℕ) (u v : ℕ) (b : Bool) → (u - 1 ≡ v - 1 → ⊥) → bit_of_variable (with_variable row v b) u ≡ bit_of_variable row u
unfolding bit_of_variable with_variable
bit_kept row u v b h =
    let i : ℕ = (u - 1) % word_bits in
    let j : ℕ = (v - 1) % word_bits in
    apart u v h
    (λ w. ap (λ x. bit_of x i) (get_or-set_other row ((v - 1) / word_bits) ((u - 1) / word_bits) _ 0 w))
    (λ e d. rw e (at_kept row ((v - 1) / word_bits) i j b d))

-- a bit that is written back as it was; two bits written in either order
pub with_restored : (row : List ℕ) (v : ℕ) (b c : Bool) → bit_of_variable row v ≡ b → with_variable (with_variable row v c) v b ≡ row
unfolding bit_of_variable with_variable
with_restored row v b c e = at_restored row ((v - 1) / word_bits) ((v - 1) % word_bits) b c e

pub with_order : (row : List ℕ) (u v : ℕ) (b c : Bool) → (u - 1 ≡ v - 1 → ⊥)
    → with_variable (with_variable row u b) v c ≡ with_variable (with_variable row v c) u b
unfolding with_variable
with_order row u v b c h =
    let k : ℕ = (u - 1) / word_bits in
    let l : ℕ = (v - 1) / word_bits in
    let i : ℕ = (u - 1) % word_bits in
    let j : ℕ = (v - 1) % word_bits in
    apart u v h (λ w. words_order row k l i j b c w) (λ e d. rw e (at_order row l i j b c d))

-- ---- the first words of a row set to 0

pub cleared : (row part : List ℕ) (n m : ℕ) → n ≤ length row → m ≡ length (take n row) → part ≡ replicate m 0
    → part ++ drop n row ≡ over_row (replicate n 0) row
unfolding over_row
cleared row part n m h f e =
    let same : m ≡ n = f ∙ length-take-le n row h in
    rw (e, same) (ap (λ k. replicate n 0 ++ drop k row) (sym (length-replicate n 0)))
