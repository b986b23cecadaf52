-- Counting: what is done for each number below a bound, from 0 up, and the first number of which something holds.
-- Assumes nothing.
use Rattle.std.specs.Prelude.{ℕ, zero, suc, ◌+◌, ◌-◌, Bool, true, false, cond, ◌&&◌, ◌||◌, List, [], ◌∷◌, ◌++◌, ltb}

-- the sum of w 0, w 1, up to w (m - 1)
unfoldable pub sum_to : ℕ → (ℕ → ℕ) → ℕ
sum_to zero w = 0
sum_to (suc m) w = sum_to m w + w m

-- the first number below m at which p is true, or m where there is none
unfoldable pub first : ℕ → (ℕ → Bool) → ℕ
first zero p = 0
first (suc m) p = let before : ℕ = first m p in cond (ltb before m) before (cond (p m) m (suc m))

module _ {X : Type 0} where
  -- f 0, then f 1, up to f (m - 1), joined
  unfoldable pub for_each : ℕ → (ℕ → List X) → List X
  for_each zero f = []
  for_each (suc m) f = for_each m f ++ f m

  -- the list f 0, f 1, up to f (m - 1)
  abbrev pub table : ℕ → (ℕ → X) → List X
  table m f = for_each m (λ i. f i ∷ [])

  -- f i j for each i < j below m, i rising, and j rising for each i
  unfoldable pub for_pairs : ℕ → (ℕ → ℕ → List X) → List X
  for_pairs m f = for_each m (λ i. for_each (m - suc i) (λ j. f i (suc i + j)))

  -- a list m times
  unfoldable pub times : ℕ → List X → List X
  times zero l = []
  times (suc m) l = l ++ times m l

  abbrev pub when : Bool → List X → List X
  when b l = cond b l []

  -- the lists one behind the other
  unfoldable pub joined : List (List X) → List X
  joined [] = []
  joined (l ∷ ls) = l ++ joined ls

  unfoldable pub every : (X → Bool) → List X → Bool
  every p [] = true
  every p (x ∷ l) = p x && every p l

  unfoldable pub any : (X → Bool) → List X → Bool
  any p [] = false
  any p (x ∷ l) = p x || any p l
