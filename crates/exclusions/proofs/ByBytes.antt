-- Lines digit by digit: a literal, a line's end, and the two behind each other.
-- Assumes nothing.
use mathlib.Core.Path.{◌≡◌}
use mathlib.Core.List.{List, [], ◌∷◌, ◌++◌, append_assoc, append-nil}
use Prim.Native.Nat.{ℕ, ◌+◌, ◌≤◌, ◌<◌}
use native.Mathlib.Omega.{arith}
use lib.ListN.{length}
use Rattle.rules.specs.Limits.{max_n}
use Rattle.rules.specs.Counting.{joined}
use Rattle.rules.specs.Text.{lf, space, dash, digit0, decimal, literal_text, clause_line}
use Rattle.rules.proofs.Decimal.{decimal_few}
use Rattle.digits.specs.Bound.{past_numbers}
use Rattle.digits.specs.Over.{over, Wrote}
use Rattle.digits.proofs.Overs.{wrote_more}
use Rattle.exclusions.specs.Exclusions.{exclusion_text, minus_text, end_text, literal_room, pair_room}

module _ (m : ℕ) (few : m ≤ max_n) where
  pub digits_few : length (decimal m) ≤ 5
  digits_few = decimal_few 4 m (omega arith)

  pub number_below : m < past_numbers
  number_below = omega arith

  -- room for the digits behind the minus, and for the space behind them
  pub digits_room : (at room room' d : ℕ) → d ≡ at + 1 → at + literal_room ≤ room → room' ≡ room → d + length (decimal m) ≤ room'
  digits_room at room room' d e h f = omega (arith, digits_few)

  pub space_room : (at room room' room'' d e : ℕ) → d ≡ at + 1 → e ≡ d + length (decimal m) → at + literal_room ≤ room → room' ≡ room → room'' ≡ room'
      → e < room''
  space_room at room room' room'' d e f g h i j = omega (arith, digits_few)

  pub minus_within : (at d e e' : ℕ) → d ≡ at + 1 → e ≡ d + length (decimal m) → e' ≡ e + 1 → e' ≤ at + literal_room
  minus_within at d e e' f g h = omega (arith, digits_few)

pub minus_written : (l j k k' : List ℕ) (at m d e e' : ℕ) → j ≡ over l at (dash ∷ []) → d ≡ at + 1
    → k ≡ over j d (decimal m) → e ≡ d + length (decimal m) → k' ≡ over k e (space ∷ []) → e' ≡ e + 1 → Wrote l at (minus_text m) k' e'
unfolding minus_text literal_text
minus_written l j k k' at m d e e' o g p q r s =
    wrote_more l j k' at d e' (dash ∷ []) (decimal m ++ (space ∷ [])) (record { written = o; behind = g })
    (wrote_more j k k' d e e' (decimal m) (space ∷ []) (record { written = p; behind = q }) (record { written = r; behind = s }))

pub end_written : (l m m' : List ℕ) (at e e' : ℕ) → m ≡ over l at (digit0 ∷ []) → e ≡ at + 1 → m' ≡ over m e (lf ∷ []) → e' ≡ e + 1 → Wrote l at end_text m' e'
unfolding end_text
end_written l m m' at e e' p q r s =
    wrote_more l m m' at e e' (digit0 ∷ []) (lf ∷ []) (record { written = p; behind = q }) (record { written = r; behind = s })

-- a line is its parts
pub line_parts : (p q : ℕ) → minus_text p ++ (minus_text q ++ end_text) ≡ exclusion_text p q
unfolding exclusion_text minus_text end_text clause_line joined
line_parts p q = simp (append_assoc, append-nil)

pub line_written : (p q : ℕ) (l k m m' : List ℕ) (at d e e' : ℕ) → Wrote l at (minus_text p) k d → Wrote k d (minus_text q) m e → Wrote m e end_text m' e'
    → Wrote l at (exclusion_text p q) m' e'
line_written p q l k m m' at d e e' a b c =
    rw (← line_parts p q) (wrote_more l k m' at d e' (minus_text p) (minus_text q ++ end_text) a (wrote_more k m m' d e e' (minus_text q) end_text b c))

pub line_within : (l m : List ℕ) (at d e e' : ℕ) → d ≤ at + literal_room → e ≤ d + literal_room → Wrote l e end_text m e' → e' ≤ at + pair_room
unfolding end_text
line_within l m at d e e' f g w = omega (arith, w.behind)
