-- Laws of a stretch of variables: word by word, the ones of a masked word and the zeros below its lowest one.
-- Assumes nothing.
use mathlib.Core.Path.{◌≡◌, refl, sym, ap, ap₂, ◌∙◌}
use mathlib.Core.Logic.{⊎_elim}
use mathlib.Core.Bool.{Bool, true, false, cond}
use mathlib.Core.List.{List}
use Prim.Native.Nat.{ℕ, zero, suc, ◌+◌, ◌-◌, ◌/◌, ◌%◌, ◌^◌, ◌≤◌, ◌<◌, min}
use native.Mathlib.Omega.{arith}
use native.Mathlib.Numerals.{one-add}
use native.Mathlib.Nat.{mod-one, mod-lt, add-suc, add-zero}
use borrow.Author.Tests.{eqb-true, eqb-false}
use mir.Syntax.{w64}
use mir.Val.{Fits}
use lib.Dec.{eqb}
use lib.Bits.{bit_and, and_mask}
use lib.Count.{ones, ones_cat, ones-le, count_trailing_zeros, trailing_le}
use lib.Pow.{pow_pos, shr-shr, mod-pow-add, ones_split, high, ones_lt}
use lib.ListN.{length, get_or, get_or-eq_default}
use Rattle.rules.specs.Counting.{sum_to, first}
use Rattle.rules.specs.Rows.{word_bits, bit_of, bit_of_variable}
use Rattle.rules.proofs.Bools.{either, below_or}
use Rattle.rules.proofs.Counting.{sum_to-ext, first_is, first_none}
use Rattle.rows.specs.Bits.{counts_true, counted_word, set_from}
use Rattle.rows.specs.Lent.{lent}
use Rattle.rows.specs.Stretch.{set_below, LowestSet, count_set}
use Rattle.rows.proofs.Bits.{digit, digit_zero, digit_suc, digit_bit}
use Rattle.rows.proofs.Words.{counted_bit}

-- ---- the ones of a masked word

one_digit : (d : ℕ) → d < 2 → ones d ≡ d
unfolding ones
one_digit zero h = refl
one_digit (suc zero) h = refl
one_digit (suc (suc d)) h = absurd (omega arith)

bit_worth : (w i : ℕ) → cond (bit_of w i) 1 0 ≡ digit w i
bit_worth w i =
    ⊎_elim (λ t. rw t (sym (eqb-true (digit w i) 1 t)))
    (λ t. let h : digit w i ≡ 1 → ⊥ = eqb-false (digit w i) 1 t in rw t (omega (arith, h)))
    (either (bit_of w i))

ones_digits : (w k : ℕ) → ones (w % 2 ^ k) ≡ set_below w k
unfolding set_below sum_to
ones_digits w zero = ap ones (mod-one w) ∙ one_digit 0 (omega arith)
ones_digits w (suc k) =
    ap ones (ap (λ j. w % 2 ^ j) (sym (one-add k)) ∙ mod-pow-add w 1 k)
    ∙ ones_cat k (digit w k) (w % 2 ^ k) (mod-lt w (pow_pos k))
    ∙ omega (arith, ones_digits w k, one_digit (digit w k) (omega arith), bit_worth w k)

mask_is : (w size : ℕ) → size ≤ word_bits → bit_and w ((2 ^ word_bits - 1) / 2 ^ (word_bits - size)) ≡ w % 2 ^ size
mask_is w size h =
    let k : ℕ = word_bits - size in
    let width : word_bits ≡ size + k = omega arith in
    ap (bit_and w)
    (ap (λ n. (2 ^ n - 1) / 2 ^ k) width ∙ ap (λ n. n / 2 ^ k) (ones_split size k) ∙ high (2 ^ size - 1) k (ones_lt k))
    ∙ and_mask w size

pub ones_are : (w size : ℕ) → size ≤ word_bits → ones (bit_and w ((2 ^ word_bits - 1) / 2 ^ (word_bits - size))) ≡ set_below w size
ones_are w size h = ap ones (mask_is w size h) ∙ ones_digits w size

pub ones_few : (w size : ℕ) → size ≤ word_bits → ones (bit_and w ((2 ^ word_bits - 1) / 2 ^ (word_bits - size))) ≤ size
ones_few w size h =
    let few : ones (w % 2 ^ size) ≤ size = ones-le size (w % 2 ^ size) (mod-lt w (pow_pos size)) in
    rw (mask_is w size h) few

pub ones_fit : (w size : ℕ) → size ≤ word_bits → Fits w64 (ones (bit_and w ((2 ^ word_bits - 1) / 2 ^ (word_bits - size))))
ones_fit w size h = record { fits = omega (arith, ones_few w size h) }

-- ---- the zeros below a word's lowest one

zeros_odd : (k w : ℕ) → w % 2 ≡ 1 → count_trailing_zeros (suc k) w ≡ 0
unfolding count_trailing_zeros
zeros_odd k w e = rw e

zeros_even : (k w : ℕ) → w % 2 ≡ 0 → count_trailing_zeros (suc k) w ≡ suc (count_trailing_zeros k (w / 2))
unfolding count_trailing_zeros
zeros_even k w e = rw e

zeros_below : (k w i : ℕ) → i < count_trailing_zeros k w → digit w i ≡ 0
unfolding count_trailing_zeros
zeros_below zero w i h = absurd (omega arith)
zeros_below (suc k) w zero h =
    ⊎_elim (λ t. absurd (omega (arith, zeros_odd k w (eqb-true (w % 2) 1 t))))
    (λ t. let z : w % 2 ≡ 1 → ⊥ = eqb-false (w % 2) 1 t in omega (arith, z, digit_zero w))
    (either (eqb (w % 2) 1))
zeros_below (suc k) w (suc i) h =
    ⊎_elim (λ t. absurd (omega (arith, zeros_odd k w (eqb-true (w % 2) 1 t))))
    (λ t.
    let z : w % 2 ≡ 1 → ⊥ = eqb-false (w % 2) 1 t in
    digit_suc w i ∙ zeros_below k (w / 2) i (omega (arith, zeros_even k w (omega (arith, z)))))
    (either (eqb (w % 2) 1))

zeros_here : (k w : ℕ) → count_trailing_zeros k w < k → digit w (count_trailing_zeros k w) ≡ 1
unfolding count_trailing_zeros
zeros_here zero w h = absurd (omega arith)
zeros_here (suc k) w h =
    ⊎_elim
    (λ t. ap (digit w) (zeros_odd k w (eqb-true (w % 2) 1 t)) ∙ digit_zero w ∙ eqb-true (w % 2) 1 t)
    (λ t.
    let z : w % 2 ≡ 1 → ⊥ = eqb-false (w % 2) 1 t in
    let e : count_trailing_zeros (suc k) w ≡ suc (count_trailing_zeros k (w / 2)) = zeros_even k w (omega (arith, z)) in
    ap (digit w) e ∙ digit_suc w (count_trailing_zeros k (w / 2)) ∙ zeros_here k (w / 2) (omega (arith, e)))
    (either (eqb (w % 2) 1))

pub zeros_fit : (w : ℕ) → Fits w64 (count_trailing_zeros word_bits w)
zeros_fit w = record { fits = omega (arith, trailing_le word_bits w) }

pub zeros_are : (w : ℕ) → LowestSet w (count_trailing_zeros word_bits w)
zeros_are w =
    record {
      within = trailing_le word_bits w;
      below = λ i h. digit_bit w i false (zeros_below word_bits w i h);
      here = λ h. digit_bit w (count_trailing_zeros word_bits w) true (zeros_here word_bits w h);
    }

-- ---- a stretch, word by word

-- the word of both rows that holds a place
abbrev word_with : Bool → (given is_true : List ℕ) → ℕ → ℕ
word_with unnamed given is_true place = counted_word unnamed (get_or given (place / word_bits) 0) (get_or is_true (place / word_bits) 0)

-- the bits from a place on are those of the variables from it on, as far as the word goes
bits_are : (unnamed : Bool) (given is_true : List ℕ) (w place from done i : ℕ) → w ≡ word_with unnamed given is_true place / 2 ^ (place % word_bits) → 0 < from
    → place ≡ from - 1 + done → i < word_bits - place % word_bits → bit_of w i ≡ counts_true unnamed (lent given is_true) (from + (done + i))
unfolding bit_of_variable counts_true
bits_are unnamed given is_true w place from done i e f p h =
    let k : (from + (done + i) - 1) / word_bits ≡ place / word_bits = omega arith in
    let j : (from + (done + i) - 1) % word_bits ≡ place % word_bits + i = omega arith in
    ap (λ w. bit_of w i) e
    ∙ ap (λ q. eqb (q % 2) 1) (shr-shr (word_with unnamed given is_true place) (place % word_bits) i)
    ∙ counted_bit unnamed (get_or given (place / word_bits) 0) (get_or is_true (place / word_bits) 0) (place % word_bits + i) (omega arith)
    ∙ ap₂ (λ k j. cond (bit_of (get_or given k 0) j) (bit_of (get_or is_true k 0) j) unnamed) (sym k) (sym j)

sum_to-parts : (n m : ℕ) (f : ℕ → ℕ) → sum_to (n + m) f ≡ sum_to n f + sum_to m (λ i. f (n + i))
unfolding sum_to
sum_to-parts n zero f = ap (λ k. sum_to k f) (add-zero n) ∙ omega arith
sum_to-parts n (suc m) f = ap (λ k. sum_to k f) (add-suc n m) ∙ omega (arith, sum_to-parts n m f)

pub word_behind : (row : List ℕ) (at : ℕ) → length row ≤ at → 0 ≡ get_or row at 0
word_behind row at h = sym (get_or-eq_default row 0 h)

-- ---- the loop that counts

pub count_none : (unnamed : Bool) (given is_true : List ℕ) (from : ℕ) → 0 ≡ count_set (counts_true unnamed (lent given is_true)) from 0
unfolding count_set sum_to
count_none unnamed given is_true from = refl

pub count_on : (unnamed : Bool) (given is_true : List ℕ) (from many done w size n r : ℕ) → 0 < from
    → size ≡ min (word_bits - (from - 1 + done) % word_bits) (many - done)
    → w ≡ word_with unnamed given is_true (from - 1 + done) / 2 ^ ((from - 1 + done) % word_bits)
    → r ≡ set_below w size → n ≡ count_set (counts_true unnamed (lent given is_true)) from done → n + r ≡ count_set (counts_true unnamed (lent given is_true)) from (done + size)
unfolding count_set set_below
count_on unnamed given is_true from many done w size n r f s e k c =
    let same : sum_to size (λ i. cond (bit_of w i) 1 0) ≡ sum_to size (λ i. cond (counts_true unnamed (lent given is_true) (from + (done + i))) 1 0) =
    sum_to-ext size _ _ (λ i h. ap (λ b. cond b 1 0) (bits_are unnamed given is_true w (from - 1 + done) from done i e f refl (omega (arith, s)))) in
    omega (arith, k, c, same, sum_to-parts done size (λ i. cond (counts_true unnamed (lent given is_true) (from + i)) 1 0))

pub count_all : (unnamed : Bool) (given is_true : List ℕ) (from many done n : ℕ) → done ≤ many → many ≤ done → n ≡ count_set (counts_true unnamed (lent given is_true)) from done → n ≡ count_set (counts_true unnamed (lent given is_true)) from many
count_all unnamed given is_true from many done n h k c = let e : done ≡ many = omega arith in rw e at c

-- ---- the loop that looks for the first

abbrev pub NoneSet : Bool → (given is_true : List ℕ) → ℕ → ℕ → Type 0
NoneSet unnamed given is_true from done = (i : ℕ) → i < done → counts_true unnamed (lent given is_true) (from + i) ≡ false

pub none_none : (unnamed : Bool) (given is_true : List ℕ) (from : ℕ) → NoneSet unnamed given is_true from 0
none_none unnamed given is_true from i h = absurd (omega arith)

module _ (unnamed : Bool) (given is_true : List ℕ) (from many done w size low : ℕ) (f : 0 < from) (s : size ≡ min (word_bits - (from - 1 + done) % word_bits) (many - done))
    (e : w ≡ word_with unnamed given is_true (from - 1 + done) / 2 ^ ((from - 1 + done) % word_bits)) (l : LowestSet w low) (none : NoneSet unnamed given is_true from done) where
  -- none of the variables whose bits stand below the lowest one
  none_below : (n : ℕ) → n ≤ low → n ≤ size → NoneSet unnamed given is_true from (done + n)
  none_below n h k i b =
      ⊎_elim (λ c. none i c)
      (λ c.
      let at : i ≡ done + (i - done) = omega arith in
      ap (λ i. counts_true unnamed (lent given is_true) (from + i)) at
      ∙ sym (bits_are unnamed given is_true w (from - 1 + done) from done (i - done) e f refl (omega (arith, s)))
      ∙ l.below (i - done) (omega arith))
      (below_or i done)

  pub none_on : size ≤ low → NoneSet unnamed given is_true from (done + size)
  none_on h = none_below size h (omega arith)

  pub first_here : done < many → low < size → done + low ≡ first many (set_from (counts_true unnamed (lent given is_true)) from)
  unfolding set_from
  first_here d h =
      sym (first_is many (λ i. counts_true unnamed (lent given is_true) (from + i)) (done + low) (omega (arith, s))
      (sym (bits_are unnamed given is_true w (from - 1 + done) from done low e f refl (omega (arith, s))) ∙ l.here (omega (arith, s)))
      (none_below low (omega arith) (omega arith)))

pub first_nowhere : (unnamed : Bool) (given is_true : List ℕ) (from many done : ℕ) → many ≤ done → NoneSet unnamed given is_true from done → many ≡ first many (set_from (counts_true unnamed (lent given is_true)) from)
unfolding set_from
first_nowhere unnamed given is_true from many done h none = sym (first_none many (λ i. counts_true unnamed (lent given is_true) (from + i)) (λ i b. none i (omega arith)))
