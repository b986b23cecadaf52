-- What is done for each of so many numbers, and then for more of them.
-- Assumes nothing.
use mathlib.Core.Path.{◌≡◌, ap, ◌∙◌}
use mathlib.Core.List.{List, ◌++◌, append-nil, append_assoc}
use Prim.Native.Nat.{ℕ, zero, suc, ◌+◌}
use native.Mathlib.Nat.{add-zero, add-suc}
use Rattle.rules.specs.Counting.{for_each}

module _ {X : Type 0} where
  pub for_each-add : (m k : ℕ) (f : ℕ → List X) → for_each (m + k) f ≡ for_each m f ++ for_each k (λ i. f (m + i))
  unfolding for_each
  for_each-add m zero f = rw (add-zero m, append-nil (for_each m f))
  for_each-add m (suc k) f =
      rw (add-suc m k) (ap (λ l. l ++ f (m + k)) (for_each-add m k f) ∙ append_assoc (for_each m f) (for_each k (λ i. f (m + i))) (f (m + k)))
