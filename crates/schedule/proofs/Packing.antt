-- Bits written one by one: writing a variable's bit in a row of packed bits is packing the bits with that one written.
-- Assumes nothing.
use mathlib.Core.Path.{◌≡◌, sym, ap, ◌∙◌}
use mathlib.Core.Logic.{⊎_elim}
use mathlib.Core.Bool.{Bool, true, false, cond}
use mathlib.Core.List.{List, ◌++◌}
use Prim.Native.Nat.{ℕ, zero, suc, ◌+◌, ◌-◌, ◌*◌, ◌/◌, ◌%◌, ◌^◌, ◌≤◌, ◌<◌}
use native.Mathlib.Omega.{arith}
use native.Mathlib.Nat.{zero-mul, one-mul}
use borrow.Author.Tests.{eqb-true, eqb-false}
use lib.Dec.{eqb}
use lib.ListN.{length, get_or, set, drop, replicate, length-set, length-replicate, get_or-replicate, get_or-append, get_or-eq_default}
use lib.Seq.{ext_get_or, set-append_left, get_or-set_same, get_or-set_other}
use Rattle.rules.specs.Counting.{sum_to}
use Rattle.rules.specs.Rows.{word_bits, words_for, bit_of, with_bit, with_variable, packed, over_row}
use Rattle.rules.proofs.Bools.{either, below_or}
use Rattle.rules.proofs.Counting.{sum_to-ext, sum_to-const, length-table, get_or-table}
use Rattle.rules.proofs.Bits.{powers, bit_of-sum, word_there}

-- ---- a word

-- two sums that differ in one term
sum_changed : (f g : ℕ → ℕ) (m k : ℕ) → k < m → ((i : ℕ) → (i ≡ k → ⊥) → f i ≡ g i) → sum_to m f + g k ≡ sum_to m g + f k
unfolding sum_to
sum_changed f g zero k h e = absurd (omega arith)
sum_changed f g (suc m) k h e =
    ⊎_elim (λ l. omega (arith, sum_changed f g m k l e, e m (λ q. omega arith)))
    (λ l.
    let q : k ≡ m = omega arith in
    let s : sum_to m f ≡ sum_to m g = sum_to-ext m f g (λ i b. e i (λ r. omega arith)) in
    rw q (omega arith))
    (below_or k m)

-- a term of a sum is in it
term_within : (f : ℕ → ℕ) (m k : ℕ) → k < m → f k ≤ sum_to m f
unfolding sum_to
term_within f zero k h = absurd (omega arith)
term_within f (suc m) k h =
    ⊎_elim (λ l. omega (arith, term_within f m k l)) (λ l. let q : k ≡ m = omega arith in rw q (omega arith)) (below_or k m)

-- the worth of a bit that a word has
worth : (w k : ℕ) (b : Bool) → bit_of w k ≡ b → w / 2 ^ k % 2 * 2 ^ k ≡ cond b (2 ^ k) 0
worth w k true e = ap (λ d. d * 2 ^ k) (eqb-true (w / 2 ^ k % 2) 1 e) ∙ one-mul (2 ^ k)
worth w k false e =
    let z : w / 2 ^ k % 2 ≡ 0 = two (w / 2 ^ k) (eqb-false (w / 2 ^ k % 2) 1 e) in
    ap (λ d. d * 2 ^ k) z ∙ zero-mul (2 ^ k)
  where
    two : (q : ℕ) → (q % 2 ≡ 1 → ⊥) → q % 2 ≡ 0
    two q h = ⊎_elim (λ l. omega arith) (λ l. absurd (h (omega arith))) (below_or (q % 2) 1)

-- a word of bits with one written is the word of the bits with that one written
word_written : (p q : ℕ → Bool) (m k : ℕ) → k < m → ((i : ℕ) → (i ≡ k → ⊥) → p i ≡ q i) → with_bit (sum_to m (powers p)) k (q k) ≡ sum_to m (powers q)
word_written p q m k h e =
    let old : sum_to m (powers p) / 2 ^ k % 2 * 2 ^ k ≡ powers p k = worth (sum_to m (powers p)) k (p k) (bit_of-sum p m k h) in
    omega (arith, old, sum_changed (powers p) (powers q) m k h (λ i d. ap (λ b. cond b (2 ^ i) 0) (e i d)), term_within (powers p) m k h)

-- ---- a row

-- word j of packed bits
word_of : List Bool → ℕ → ℕ
word_of bits j = sum_to word_bits (powers (λ t. get_or bits (word_bits * j + t) false))

length-packed : (bits : List Bool) → length (packed bits) ≡ words_for (length bits)
unfolding packed
length-packed bits = length-table (words_for (length bits)) _

word_at : (bits : List Bool) (j : ℕ) → j < words_for (length bits) → get_or (packed bits) j 0 ≡ word_of bits j
unfolding packed word_of
word_at bits j h = get_or-table (words_for (length bits)) _ 0 j h

module _ (bits : List Bool) (i : ℕ) (b : Bool) (h : i < length bits) where
  abbrev written : List Bool
  written = set bits i b

  here : with_bit (word_of bits (i / word_bits)) (i % word_bits) b ≡ word_of written (i / word_bits)
  unfolding word_of
  here =
      let j : ℕ = i / word_bits in
      let p : ℕ → Bool = λ t. get_or bits (word_bits * j + t) false in
      let q : ℕ → Bool = λ t. get_or written (word_bits * j + t) false in
      let at : word_bits * j + i % word_bits ≡ i = omega arith in
      let is_b : q (i % word_bits) ≡ b = ap (λ k. get_or written k false) at ∙ get_or-set_same bits i b false h in
      ap (with_bit (sum_to word_bits (powers p)) (i % word_bits)) (sym is_b)
      ∙ word_written p q word_bits (i % word_bits) (omega arith) (λ t d. sym (get_or-set_other bits i (word_bits * j + t) b false (λ e. d (omega arith))))

  elsewhere : (j : ℕ) → (j ≡ i / word_bits → ⊥) → word_of bits j ≡ word_of written j
  unfolding word_of
  elsewhere j d =
      sum_to-ext word_bits _ _ (λ t l.
      ap (λ v. cond v (2 ^ t) 0) (sym (get_or-set_other bits i (word_bits * j + t) b false (λ e. d (omega arith)))))

  word_in : i / word_bits < length (packed bits)
  word_in = omega (arith, length-packed bits, word_there (length bits) i h)

  packed_written : set (packed bits) (i / word_bits) (with_bit (get_or (packed bits) (i / word_bits) 0) (i % word_bits) b) ≡ packed written
  packed_written =
      let w : ℕ = with_bit (get_or (packed bits) (i / word_bits) 0) (i % word_bits) b in
      let same : length written ≡ length bits = length-set bits i b in
      let long : length (set (packed bits) (i / word_bits) w) ≡ words_for (length bits) = length-set (packed bits) (i / word_bits) w ∙ length-packed bits in
      ext_get_or 0 _ _ (long ∙ ap words_for (sym same) ∙ sym (length-packed written)) (λ j l.
      ⊎_elim
      (λ t.
      let e : j ≡ i / word_bits = eqb-true j (i / word_bits) t in
      ap (λ k. get_or (set (packed bits) (i / word_bits) w) k 0) e
      ∙ get_or-set_same (packed bits) (i / word_bits) w 0 word_in
      ∙ ap (λ v. with_bit v (i % word_bits) b) (word_at bits (i / word_bits) (omega (arith, word_there (length bits) i h)))
      ∙ here
      ∙ sym (word_at written (i / word_bits) (omega (arith, word_there (length bits) i h)))
      ∙ ap (λ k. get_or (packed written) k 0) (sym e))
      (λ t.
      let d : j ≡ i / word_bits → ⊥ = eqb-false j (i / word_bits) t in
      get_or-set_other (packed bits) (i / word_bits) j w 0 d
      ∙ word_at bits j (omega arith)
      ∙ elsewhere j d
      ∙ sym (word_at written j (omega arith)))
      (either (eqb j (i / word_bits))))

  -- whatever stands behind them
  pub with_packed : (row : List ℕ) (v : ℕ) → v ≡ suc i → with_variable (over_row (packed bits) row) v b ≡ over_row (packed written) row
  unfolding with_variable over_row
  with_packed row v e =
      let at : v - 1 ≡ i = omega arith in
      let rest : List ℕ = drop (length (packed bits)) row in
      let same : length (packed written) ≡ length (packed bits) =
      length-packed written ∙ ap words_for (length-set bits i b) ∙ sym (length-packed bits) in
      ap (λ k. set (packed bits ++ rest) (k / word_bits) (with_bit (get_or (packed bits ++ rest) (k / word_bits) 0) (k % word_bits) b)) at
      ∙ ap (λ w. set (packed bits ++ rest) (i / word_bits) (with_bit w (i % word_bits) b)) (get_or-append (packed bits) rest 0 (i / word_bits) word_in)
      ∙ set-append_left (packed bits) rest (i / word_bits) _ word_in
      ∙ ap (λ l. l ++ rest) packed_written
      ∙ ap (λ k. packed written ++ drop k row) (sym same)

-- no bit at all
pub packed_none : (m : ℕ) → replicate (words_for m) 0 ≡ packed (replicate m false)
unfolding word_of
packed_none m =
    let size : length (packed (replicate m false)) ≡ words_for m = length-packed (replicate m false) ∙ ap words_for (length-replicate m false) in
    ext_get_or 0 _ _ (length-replicate (words_for m) 0 ∙ sym size) (λ j l.
    let lj : j < words_for m = omega (arith, length-replicate {A = ℕ} (words_for m) 0) in
    get_or-replicate (words_for m) j 0 0 lj
    ∙ sym (word_at (replicate m false) j (omega (arith, length-replicate {A = Bool} m false))
    ∙ sum_to-ext word_bits _ (λ t. 0) (λ t b. ap (λ v. cond v (2 ^ t) 0) (none (word_bits * j + t)))
    ∙ sum_to-const word_bits 0))
  where
    none : (k : ℕ) → get_or (replicate m false) k false ≡ false
    none k =
        ⊎_elim (λ l. get_or-replicate m k false false l)
        (λ l. get_or-eq_default (replicate m false) false (omega (arith, length-replicate {A = Bool} m false)))
        (below_or k m)
