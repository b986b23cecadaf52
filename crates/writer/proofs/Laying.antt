-- The parts of a file, written one behind the other.
-- Assumes nothing.
use mathlib.Core.Path.{◌≡◌, ◌∙◌, subst}
use mathlib.Core.List.{List, [], ◌∷◌, ◌++◌, append_assoc, append-nil}
use Prim.Native.Nat.{ℕ, ◌+◌, ◌*◌, ◌%◌, ◌/◌}
use native.Mathlib.Omega.{arith}
use lib.ListN.{length, drop, length-append}
use Rattle.rules.specs.Limits.{byte_values, number_bytes, row_bytes, contents_bytes}
use Rattle.rules.specs.Counting.{joined}
use Rattle.rules.specs.File.{bytes16, contents_from}
use Rattle.digits.specs.Over.{over, Wrote}
use Rattle.digits.proofs.Overs.{over_over, over_front, wrote_more}
use Rattle.writer.specs.Laid.{row, rows, contents_by, half, file_length, laid_out}

-- ---- the contents

pub number_put : (room one two : List ℕ) (at high m : ℕ) → two ≡ over one high (m / byte_values ∷ []) → one ≡ over room at (m % byte_values ∷ []) → high ≡ at + 1
    → two ≡ over room at (bytes16 m)
number_put room one two at high m e f g = e ∙ rw (f, g) (over_over room at (m % byte_values ∷ []) (m / byte_values ∷ []))

pub row_put : (room one two : List ℕ) (at place start len : ℕ) → two ≡ over one place (bytes16 len) → one ≡ over room at (bytes16 start)
    → place ≡ at + number_bytes → two ≡ over room at (row start len)
unfolding row
row_put room one two at place start len e f g = e ∙ rw (f, g) (over_over room at (bytes16 start) (bytes16 len))

pub rows_put : (room one two : List ℕ) (at place start first second : ℕ) → two ≡ over one place (row (start + first) second) → one ≡ over room at (row start first)
    → place ≡ at + row_bytes → two ≡ over room at (rows start first second)
unfolding row rows
rows_put room one two at place start first second e f g = e ∙ rw (f, g) (over_over room at (row start first) (row (start + first) second))

pub contents_put : (room one two : List ℕ) (half end a b c d : ℕ) → two ≡ over one half (rows (contents_bytes + a + b) c d) → one ≡ over room 0 (rows contents_bytes a b)
    → half ≡ 0 + 2 * row_bytes → end ≡ half + 2 * row_bytes → Wrote room 0 (contents_by a b c d) two end
unfolding row rows contents_by
contents_put room one two half end a b c d e f g h =
    wrote_more room one two 0 half end (rows contents_bytes a b) (rows (contents_bytes + a + b) c d) (record { written = f; behind = g }) (record { written = e; behind = h })

-- ---- the bodies

pub bodies_put : (room one two : List ℕ) (at place end : ℕ) (x y : List ℕ) → two ≡ over one place y → one ≡ over room at x → place ≡ at + length x
    → end ≡ place + length y → Wrote room at (x ++ y) two end
bodies_put room one two at place end x y e f g h = wrote_more room one two at place end x y (record { written = f; behind = g }) (record { written = e; behind = h })

pub half_put : (room one two : List ℕ) (place end : ℕ) (a b : List ℕ) (c d : ℕ) → Wrote one place (a ++ b) two end
    → Wrote room 0 (contents_by (length a) (length b) c d) one place → Wrote room 0 (half a b c d) two end
unfolding half
half_put room one two place end a b c d w v = wrote_more room one two 0 place end (contents_by (length a) (length b) c d) (a ++ b) v w

module _ (a b c d : List ℕ) where
  pub laid_length : length (laid_out a b c d) ≡ file_length (length a) (length b) (length c) (length d)
  unfolding laid_out contents_from joined
  laid_length = simp length-append (omega arith)

  both_halves : half a b (length c) (length d) ++ (c ++ d) ≡ laid_out a b c d
  unfolding half laid_out joined contents_by rows row contents_from
  both_halves = simp (append_assoc, append-nil)

  module _ (room one two : List ℕ) (place end : ℕ) (w : Wrote one place (c ++ d) two end) (v : Wrote room 0 (half a b (length c) (length d)) one place) where
    file_wrote : Wrote room 0 (laid_out a b c d) two end
    file_wrote =
        subst (λ file. Wrote room 0 file two end) both_halves (wrote_more room one two 0 place end (half a b (length c) (length d)) (c ++ d) v w)

    pub file_put : two ≡ over room 0 (laid_out a b c d)
    file_put = file_wrote.written

    pub file_behind : end ≡ length (laid_out a b c d)
    file_behind = omega (arith, file_wrote.behind)

-- what is written over the front is what the rules leave in lent room
pub written_front : (room file : List ℕ) → over room 0 file ≡ file ++ drop (length file) room
written_front room file = over_front room file
