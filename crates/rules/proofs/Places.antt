-- What stands at a place: in lists made for each number, where the lengths of their parts are known, and in lists one behind the other.
-- Assumes nothing.
use mathlib.Core.Path.{◌≡◌, sym, ap, ◌∙◌}
use mathlib.Core.List.{List, [], ◌∷◌, ◌++◌}
use Prim.Native.Nat.{ℕ, zero, suc, ◌+◌, ◌*◌, ◌/◌, ◌%◌, ◌<◌}
use native.Mathlib.Omega.{arith}
use native.Mathlib.Nat.{mul-le-mul_right, suc-mul, div-add-mod', mod-lt, div-lt_iff_lt-mul}
use lib.ListN.{length, get_or, get_or-append}
use lib.Seq.{get_or-append-add}
use Rattle.rules.specs.Counting.{sum_to, for_each, joined}
use Rattle.rules.proofs.Counting.{sum_to-ext, sum_to-const, sum_to-part, sum_to-front, get_or-for_each}
use Rattle.rules.proofs.Counts.{length-each}

-- number r in K rows of m: its row and its place there
pub record InRow (K m r : ℕ) : Type 0 where
  pub row : r / m < K
  pub place : r % m < m
  pub is : r ≡ r / m * m + r % m

pub in_row : (K m r : ℕ) → r < K * m → InRow K m r
in_row K zero r h = absurd (omega arith)
in_row K (suc m) r h =
    record { row = (div-lt_iff_lt-mul {k = suc m} {x = r} {y = K} (omega arith)).1 h; place = mod-lt r (omega arith); is = sym (div-add-mod' r (suc m)) }

pub within_rows : (K m s j : ℕ) → s < K → j < m → s * m + j < K * m
within_rows K m s j h l = omega (arith, mul-le-mul_right m h, suc-mul s m)

pub within_each : (m : ℕ) (w : ℕ → ℕ) (i j : ℕ) → i < m → j < w i → sum_to i w + j < sum_to m w
within_each m w i j h l = omega (arith, sum_to-part m w i h)

pub within_steps : (K m : ℕ) (w : ℕ → ℕ) (s i j : ℕ) → s < K → i < m → j < w i → s * sum_to m w + (sum_to i w + j) < K * sum_to m w
within_steps K m w s i j h l b = within_rows K (sum_to m w) s (sum_to i w + j) h (within_each m w i j l b)

module _ {X : Type 0} where
  -- list i stands behind all the lists before it
  pub get_or-joined : (ls : List (List X)) (z : X) (i j : ℕ) → j < length (get_or ls i [])
      → get_or (joined ls) (sum_to i (λ i. length (get_or ls i [])) + j) z ≡ get_or (get_or ls i []) j z
  unfolding joined sum_to
  get_or-joined [] z i j h = absurd (omega arith)
  get_or-joined (l ∷ ls) z zero j h = ap (λ k. get_or (l ++ joined ls) k z) (omega arith) ∙ get_or-append l (joined ls) z j h
  get_or-joined (l ∷ ls) z (suc i) j h =
      ap (λ k. get_or (l ++ joined ls) k z) (omega (arith, sum_to-front i (λ i. length (get_or (l ∷ ls) i []))))
      ∙ get_or-append-add l (joined ls) (sum_to i (λ i. length (get_or ls i [])) + j) z
      ∙ get_or-joined ls z i j h

  -- the part i of a list made for each number, by the lengths of the parts
  pub get_or-each : (m : ℕ) (f : ℕ → List X) (w : ℕ → ℕ) → ((i : ℕ) → length (f i) ≡ w i)
      → (z : X) (i j : ℕ) → i < m → j < w i → get_or (for_each m f) (sum_to i w + j) z ≡ get_or (f i) j z
  get_or-each m f w e z i j h l =
      ap (λ start. get_or (for_each m f) (start + j) z) (sum_to-ext i w _ (λ i b. sym (e i)))
      ∙ get_or-for_each m f z i j h (omega (arith, e i))

  pub get_or-times : (m : ℕ) (f : ℕ → List X) (c : ℕ) → ((i : ℕ) → length (f i) ≡ c)
      → (z : X) (i j : ℕ) → i < m → j < c → get_or (for_each m f) (i * c + j) z ≡ get_or (f i) j z
  get_or-times m f c e z i j h l =
      ap (λ start. get_or (for_each m f) (start + j) z) (sym (sum_to-const i c)) ∙ get_or-each m f (λ i. c) e z i j h l

  -- the same at each of K steps
  pub get_or-steps : (K m : ℕ) (f : ℕ → ℕ → List X) (w : ℕ → ℕ) → ((s i : ℕ) → length (f s i) ≡ w i)
      → (z : X) (s i j : ℕ) → s < K → i < m → j < w i
      → get_or (for_each K (λ s. for_each m (f s))) (s * sum_to m w + (sum_to i w + j)) z ≡ get_or (f s i) j z
  get_or-steps K m f w e z s i j hs hi hj =
      get_or-times K (λ s. for_each m (f s)) (sum_to m w) (λ s. length-each m (f s) w (e s)) z s (sum_to i w + j) hs (within_each m w i j hi hj)
      ∙ get_or-each m (f s) w (e s) z i j hi hj
