-- Numbers in decimal: their last digit and what stands before it, and how many digits there are.
-- Assumes nothing.
use mathlib.Core.Path.{◌≡◌, sym, ap, ◌∙◌}
use mathlib.Core.Logic.{⊎_elim}
use mathlib.Core.Bool.{Bool, true, false}
use mathlib.Core.List.{[], ◌∷◌, ◌++◌}
use Prim.Native.Nat.{ℕ, zero, suc, ◌+◌, ◌*◌, ◌/◌, ◌%◌, ◌^◌, ◌≤◌, ◌<◌}
use native.Mathlib.Omega.{arith}
use native.Mathlib.Nat.{pow-suc, one-le-pow}
use borrow.Author.Tests.{lt-ltb, le-ltb}
use lib.Dec.{lit<}
use lib.ListN.{length, length-append}
use Rattle.rules.specs.Counting.{every}
use Rattle.rules.specs.Text.{digit0, decimal_up_to, decimal}
use Rattle.rules.proofs.Bools.{below_or}
use Rattle.rules.proofs.Counting.{every_one, every_append}

small : (most m : ℕ) → m < 10 → decimal_up_to (suc most) m ≡ (digit0 + m) ∷ []
unfolding decimal_up_to
small most m h =
    ap (λ b. elim b [ true ↦ (digit0 + m) ∷ [] | false ↦ decimal_up_to most (m / 10) ++ ((digit0 + m % 10) ∷ []) ]) (lt-ltb m 10 h)

large : (most m : ℕ) → 10 ≤ m → decimal_up_to (suc most) m ≡ decimal_up_to most (m / 10) ++ ((digit0 + m % 10) ∷ [])
unfolding decimal_up_to
large most m h =
    ap (λ b. elim b [ true ↦ (digit0 + m) ∷ [] | false ↦ decimal_up_to most (m / 10) ++ ((digit0 + m % 10) ∷ []) ]) (le-ltb m 10 h)

-- a bound above the number is bound enough
enough : (most more m : ℕ) → m < most → m < more → decimal_up_to most m ≡ decimal_up_to more m
enough zero more m h l = absurd (omega arith)
enough (suc most) zero m h l = absurd (omega arith)
enough (suc most) (suc more) m h l =
    ⊎_elim (λ s. small most m s ∙ sym (small more m s))
    (λ g.
    large most m g
    ∙ ap (λ ds. ds ++ ((digit0 + m % 10) ∷ [])) (enough most more (m / 10) (omega arith) (omega arith))
    ∙ sym (large more m g))
    (below_or m 10)

pub decimal_one : (m : ℕ) → m < 10 → decimal m ≡ (digit0 + m) ∷ []
unfolding decimal
decimal_one m h = small m m h

-- the last digit stands behind the digits of the rest
pub decimal_more : (m : ℕ) → 10 ≤ m → decimal m ≡ decimal (m / 10) ++ ((digit0 + m % 10) ∷ [])
unfolding decimal
decimal_more m h = large m m h ∙ ap (λ ds. ds ++ ((digit0 + m % 10) ∷ [])) (enough m (suc (m / 10)) (m / 10) (omega arith) (omega arith))

pub decimal_length_one : (m : ℕ) → m < 10 → length (decimal m) ≡ 1
decimal_length_one m h = ap length (decimal_one m h)

pub decimal_length_more : (m : ℕ) → 10 ≤ m → length (decimal m) ≡ suc (length (decimal (m / 10)))
decimal_length_more m h = ap length (decimal_more m h) ∙ simp length-append (omega arith)

pub decimal_some : (m : ℕ) → 1 ≤ length (decimal m)
decimal_some m = ⊎_elim (λ h. omega (arith, decimal_length_one m h)) (λ h. omega (arith, decimal_length_more m h)) (below_or m 10)

-- a number between two powers of ten
pub decimal_length : (n m : ℕ) → 10 ^ n ≤ m → m < 10 ^ suc n → length (decimal m) ≡ suc n
decimal_length zero m h l = decimal_length_one m l
decimal_length (suc n) m h l =
    let low : 10 ^ suc n ≡ 10 ^ n * 10 = pow-suc 10 n in
    let high : 10 ^ suc (suc n) ≡ 10 ^ suc n * 10 = pow-suc 10 (suc n) in
    decimal_length_more m (omega (arith, one-le-pow n 10 (lit< tt))) ∙ ap suc (decimal_length n (m / 10) (omega arith) (omega arith))

-- a number below a power of ten has no more digits
pub decimal_few : (n m : ℕ) → m < 10 ^ suc n → length (decimal m) ≤ suc n
decimal_few zero m l = omega (arith, decimal_length_one m l)
decimal_few (suc n) m l =
    ⊎_elim (λ s. omega (arith, decimal_length_one m s))
    (λ g. omega (arith, decimal_length_more m g, decimal_few n (m / 10) (omega (arith, pow-suc 10 (suc n)))))
    (below_or m 10)

-- what holds of every digit's byte holds of the text
pub decimal_every : (p : ℕ → Bool) → ((j : ℕ) → j < 10 → p (digit0 + j) ≡ true) → (m : ℕ) → every p (decimal m) ≡ true
decimal_every p h m = below (suc m) m (omega arith)
  where
    below : (most m : ℕ) → m < most → every p (decimal m) ≡ true
    below zero m l = absurd (omega arith)
    below (suc most) m l =
        ⊎_elim (λ s. rw (decimal_one m s) (every_one p (digit0 + m) (h m s)))
        (λ g. rw (decimal_more m g) (every_append p (decimal (m / 10)) ((digit0 + m % 10) ∷ []) (below most (m / 10) (omega arith)) (every_one p (digit0 + m % 10) (h (m % 10) (omega arith)))))
        (below_or m 10)
