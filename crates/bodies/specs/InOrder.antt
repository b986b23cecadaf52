-- Where a pair is put among the pairs in lent bytes, and the bytes that give way to it.
-- Assumes nothing.
use Rattle.std.specs.Prelude.{ℕ, ◌+◌, ◌*◌, List, ltb}
use Rattle.std.proofs.Math.Seq.{slice}
use Rattle.rules.specs.Counting.{first}
use Rattle.rules.specs.Limits.{pair_bytes}
use Rattle.rules.specs.File.{byte}
use Rattle.digits.specs.Over.{over}

-- the first of the count pairs from place at on that has a larger variable, or count
unfoldable pub place_of : List ℕ → (at count variable : ℕ) → ℕ
place_of s at count variable = first count (λ i. ltb variable (byte s (at + pair_bytes * i)))

-- the bytes from a place up to an end, moved up by one pair
unfoldable pub moved_up : List ℕ → (from end : ℕ) → List ℕ
moved_up s from end = over s (from + pair_bytes) (slice from end s)
