-- Text in a word of 64 bits: bytes from the lowest up.
-- Assumes nothing.
use Rattle.std.specs.Prelude.{ℕ, zero, suc, ◌+◌, ◌*◌, ◌/◌, ◌%◌, List, [], ◌∷◌}
use Rattle.rules.specs.Limits.{byte_values}

-- the bytes x, the first lowest, with the number high above them
unfoldable pub in_word : List ℕ → ℕ → ℕ
in_word [] high = high
in_word (b ∷ x) high = b + byte_values * in_word x high

-- the lowest m bytes of w, the lowest first
unfoldable pub low_bytes : ℕ → ℕ → List ℕ
low_bytes zero w = []
low_bytes (suc m) w = (w % byte_values) ∷ low_bytes m (w / byte_values)
