-- Entries above the highest that they may be.
-- Assumes nothing.
use Rattle.std.specs.Prelude.{ℕ, Bool, List, ltb}
use Rattle.rules.specs.Walk.{entry}

unfoldable pub over : (entries : List ℕ) (highest : ℕ) → ℕ → Bool
over entries highest s = ltb highest (entry entries s)
