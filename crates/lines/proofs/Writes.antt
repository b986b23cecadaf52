-- Laws of writing: one text behind the other is one text, and literals with a line's end are a line.
-- Assumes nothing.
use mathlib.Core.Path.{◌≡◌, refl}
use mathlib.Core.List.{List, [], ◌∷◌, ◌++◌, append_assoc, append-nil}
use Prim.Native.Nat.{ℕ, ◌+◌, ◌≤◌, ◌<◌}
use native.Mathlib.Omega.{arith}
use lib.ListN.{length}
use Rattle.rules.specs.Limits.{max_n}
use Rattle.rules.specs.Counting.{joined}
use Rattle.rules.specs.Families.{Literal, plus, minus, Clause}
use Rattle.rules.specs.Text.{lf, space, dash, digit0, decimal, literal_text, clause_line}
use Rattle.rules.proofs.Decimal.{decimal_few}
use Rattle.digits.specs.Over.{over, Wrote}
use Rattle.digits.specs.Bound.{past_numbers}
use Rattle.digits.proofs.Overs.{wrote_nothing, wrote_more}
use Rattle.lines.specs.Written.{literals, line_end, literal_room}

-- ---- one behind the other

pub literals_append : (c d : Clause) → literals (c ++ d) ≡ literals c ++ literals d
unfolding literals joined
literals_append [] d = refl
literals_append (l ∷ c) d = rw (literals_append c d, append_assoc (literal_text l ++ (space ∷ [])) (literals c) (literals d))

pub wrote_literals : (l m m' : List ℕ) (at e e' : ℕ) (c d : Clause) → Wrote l at (literals c) m e → Wrote m e (literals d) m' e' → Wrote l at (literals (c ++ d)) m' e'
wrote_literals l m m' at e e' c d p q = rw (literals_append c d) (wrote_more l m m' at e e' (literals c) (literals d) p q)

pub wrote_line : (l m m' : List ℕ) (at e e' : ℕ) (c : Clause) → Wrote l at (literals c) m e → Wrote m e line_end m' e' → Wrote l at (clause_line c) m' e'
unfolding clause_line literals
wrote_line l m m' at e e' c p q = wrote_more l m m' at e e' (literals c) line_end p q

pub no_literals : (l : List ℕ) (at : ℕ) → Wrote l at (literals []) l at
unfolding literals joined
no_literals l at = wrote_nothing l at

-- ---- a literal, and a line's end

module _ (number m at : ℕ) (few : number ≤ max_n) (e : m ≡ number) where
  digits_few : length (decimal m) ≤ 5
  digits_few = decimal_few 4 m (omega arith)

  pub number_below : m < past_numbers
  number_below = omega arith

  pub plus_room : (room : ℕ) → at + literal_room ≤ room → at + length (decimal m) ≤ room
  plus_room room h = omega (arith, digits_few)

  pub minus_room : (room room' d : ℕ) → d ≡ at + 1 → at + literal_room ≤ room → room' ≡ room → d + length (decimal m) ≤ room'
  minus_room room room' d f h g = omega (arith, digits_few)

  pub plus_space : (room e₁ : ℕ) → e₁ ≡ at + length (decimal m) → at + literal_room ≤ room → e₁ < room
  plus_space room e₁ f h = omega (arith, digits_few)

  pub minus_space : (room room' room'' d e₁ : ℕ) → d ≡ at + 1 → e₁ ≡ d + length (decimal m) → at + literal_room ≤ room → room' ≡ room → room'' ≡ room'
      → e₁ < room''
  minus_space room room' room'' d e₁ f g h i j = omega (arith, digits_few)

  pub plus_within : (e₁ e₂ : ℕ) → e₁ ≡ at + length (decimal m) → e₂ ≡ e₁ + 1 → e₂ ≤ at + literal_room
  plus_within e₁ e₂ f g = omega (arith, digits_few)

  pub minus_within : (d e₁ e₂ : ℕ) → d ≡ at + 1 → e₁ ≡ d + length (decimal m) → e₂ ≡ e₁ + 1 → e₂ ≤ at + literal_room
  minus_within d e₁ e₂ f g h = omega (arith, digits_few)

pub plus_written : (l k k' : List ℕ) (at number m e e' : ℕ) → m ≡ number → k ≡ over l at (decimal m) → e ≡ at + length (decimal m)
    → k' ≡ over k e (space ∷ []) → e' ≡ e + 1 → Wrote l at (literals (plus number ∷ [])) k' e'
unfolding literals joined literal_text
plus_written l k k' at number m e e' f p q r s =
    rw (← f, append-nil (decimal m ++ (space ∷ [])))
    (wrote_more l k k' at e e' (decimal m) (space ∷ []) (record { written = p; behind = q }) (record { written = r; behind = s }))

pub minus_written : (l j k k' : List ℕ) (at number m d e e' : ℕ) → m ≡ number → j ≡ over l at (dash ∷ []) → d ≡ at + 1
    → k ≡ over j d (decimal m) → e ≡ d + length (decimal m) → k' ≡ over k e (space ∷ []) → e' ≡ e + 1 → Wrote l at (literals (minus number ∷ [])) k' e'
unfolding literals joined literal_text
minus_written l j k k' at number m d e e' f o g p q r s =
    rw (← f, append-nil (decimal m ++ (space ∷ [])))
    (wrote_more l j k' at d e' (dash ∷ []) (decimal m ++ (space ∷ [])) (record { written = o; behind = g })
    (wrote_more j k k' d e e' (decimal m) (space ∷ []) (record { written = p; behind = q }) (record { written = r; behind = s })))

pub end_written : (l m m' : List ℕ) (at e e' : ℕ) → m ≡ over l at (digit0 ∷ []) → e ≡ at + 1 → m' ≡ over m e (lf ∷ []) → e' ≡ e + 1 → Wrote l at line_end m' e'
end_written l m m' at e e' p q r s =
    wrote_more l m m' at e e' (digit0 ∷ []) (lf ∷ []) (record { written = p; behind = q }) (record { written = r; behind = s })

-- ---- lines from their numbers

pub single_written : (l m m' : List ℕ) (at a e e' : ℕ) → Wrote l at (literals (plus a ∷ [])) m e → Wrote m e line_end m' e'
    → Wrote l at (clause_line (plus a ∷ [])) m' e'
single_written l m m' at a e e' p q = wrote_line l m m' at e e' (plus a ∷ []) p q

pub change_written : (a b : ℕ) (l k m : List ℕ) (at d e : ℕ) → Wrote l at (literals (minus a ∷ [])) k d → Wrote k d (literals (plus b ∷ [])) m e
    → Wrote l at (literals (minus a ∷ plus b ∷ [])) m e
change_written a b l k m at d e p q = wrote_literals l k m at d e (minus a ∷ []) (plus b ∷ []) p q

pub change_ended : (a b : ℕ) (l m m' : List ℕ) (at e e' : ℕ) → Wrote l at (literals (minus a ∷ plus b ∷ [])) m e → Wrote m e line_end m' e'
    → Wrote l at (clause_line (minus a ∷ plus b ∷ [])) m' e'
change_ended a b l m m' at e e' p q = wrote_line l m m' at e e' (minus a ∷ plus b ∷ []) p q

pub pair_written : (a b : Literal) (l k m m' : List ℕ) (at d e e' : ℕ) → Wrote l at (literals (a ∷ [])) k d → Wrote k d (literals (b ∷ [])) m e
    → Wrote m e line_end m' e' → Wrote l at (clause_line (a ∷ b ∷ [])) m' e'
pair_written a b l k m m' at d e e' p q r = wrote_line l m m' at e e' (a ∷ b ∷ []) (wrote_literals l k m at d e (a ∷ []) (b ∷ []) p q) r
