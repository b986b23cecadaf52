-- A search by halving: what it finds, and in how many turns.
-- Assumes nothing.
use Rattle.std.specs.Prelude.{ℕ, suc, ◌^◌, ◌≤◌, ◌<◌, leb}
use Rattle.rules.specs.Counting.{first}

-- numbers f 0, f 1, up to f rows pass q between number i and the next
pub record Passes (f : ℕ → ℕ) (rows q i : ℕ) : Type 0 where
  pub below : i < rows
  pub begun : f i ≤ q
  pub ahead : q < f (suc i)

-- the logarithm of w to the base 2, rounded up: the lowest t such that w is at most 2 to the t
unfoldable pub halvings : ℕ → ℕ
halvings w = first w (λ t. leb w (2 ^ t))
