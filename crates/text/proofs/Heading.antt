-- The header: its start byte by byte, and its two counts.
-- Assumes nothing.
use mathlib.Core.Path.{◌≡◌}
use mathlib.Core.List.{List, [], ◌∷◌, ◌++◌, append_assoc}
use Prim.Native.Nat.{ℕ, ◌+◌, ◌≤◌, ◌<◌}
use native.Mathlib.Omega.{arith}
use lib.ListN.{length, take}
use Rattle.rules.specs.Limits.{max_horizon, max_n, max_c}
use Rattle.rules.specs.Numbering.{N}
use Rattle.rules.specs.Families.{C}
use Rattle.rules.specs.Text.{ascii, lf, space, decimal, header_line}
use Rattle.rules.specs.File.{task_of}
use Rattle.rules.specs.Calls.{problem_of}
use Rattle.rules.proofs.Decimal.{decimal_few}
use Rattle.rules.proofs.Bounds.{N-bound, C-bound}
use Rattle.rules.proofs.Files.{accepted_well_formed}
use Rattle.task.specs.Index.{Indexed}
use Rattle.digits.specs.Over.{over, Wrote}
use Rattle.digits.specs.Bound.{past_numbers}
use Rattle.digits.proofs.Overs.{wrote_more}
use Rattle.text.specs.Heading.{header_start, header_text, start_length, number_room}

-- ---- a number and the byte behind it

module _ (m at : ℕ) (h : m ≤ max_c) where
  few : length (decimal m) ≤ 8
  few = decimal_few 7 m (omega arith)

  pub number_below : m < past_numbers
  number_below = omega arith

  pub number_room_lem : (room : ℕ) → at + number_room ≤ room → at + length (decimal m) ≤ room
  number_room_lem room r = omega (arith, few)

  pub last_room : (room room' e : ℕ) → e ≡ at + length (decimal m) → at + number_room ≤ room → room' ≡ room → e < room'
  last_room room room' e f r g = omega (arith, few)

  pub number_within : (e e' : ℕ) → e ≡ at + length (decimal m) → e' ≡ e + 1 → e' ≤ at + number_room
  number_within e e' f g = omega (arith, few)

  pub number_written : (l k k' : List ℕ) (e e' last : ℕ) → k ≡ over l at (decimal m) → e ≡ at + length (decimal m) → k' ≡ over k e (last ∷ []) → e' ≡ e + 1
      → Wrote l at (decimal m ++ (last ∷ [])) k' e'
  number_written l k k' e e' last a b d f =
      wrote_more l k k' at e e' (decimal m) (last ∷ []) (record { written = a; behind = b }) (record { written = d; behind = f })

-- ---- the header of two counts

pub start_written : (l m : List ℕ) (e : ℕ) → Wrote l 0 (take start_length (112 ∷ 32 ∷ 99 ∷ 110 ∷ 102 ∷ 32 ∷ [])) m e → Wrote l 0 header_start m e
unfolding ascii
start_written l m e w = w

pub variables_few : (v : ℕ) → v ≤ max_n → v ≤ max_c
variables_few v h = omega arith

pub counts_written : (l k₁ k₂ k₃ : List ℕ) (e₁ e₂ e₃ v c : ℕ) → Wrote l 0 header_start k₁ e₁ → Wrote k₁ e₁ (decimal v ++ (space ∷ [])) k₂ e₂
    → Wrote k₂ e₂ (decimal c ++ (lf ∷ [])) k₃ e₃ → Wrote l 0 (header_text v c) k₃ e₃
unfolding header_text
counts_written l k₁ k₂ k₃ e₁ e₂ e₃ v c w u z =
    let one : List ℕ = header_start ++ decimal v ++ (space ∷ []) in
    let w₂ : Wrote l 0 one k₂ e₂ =
    rw (append_assoc header_start (decimal v) (space ∷ [])) (wrote_more l k₁ k₂ 0 e₁ e₂ header_start (decimal v ++ (space ∷ [])) w u) in
    rw (append_assoc one (decimal c) (lf ∷ [])) (wrote_more l k₂ k₃ 0 e₂ e₃ one (decimal c ++ (lf ∷ [])) w₂ z)

-- ---- the counts are within their bounds

module _ (file index : List ℕ) (k : ℕ) (ix : Indexed file index) (hk : k ≤ max_horizon) where
  pub variables_most : (v : ℕ) → v ≡ N (problem_of file k) → v ≤ max_n
  unfolding problem_of
  variables_most v e = omega (arith, N-bound (task_of file) (accepted_well_formed file ix.accepted) k hk)

  pub clauses_most : (c : ℕ) → c ≡ C (problem_of file k) → c ≤ max_c
  unfolding problem_of
  clauses_most c e = omega (arith, C-bound (task_of file) (accepted_well_formed file ix.accepted) k hk)

pub header_written : (file l m : List ℕ) (k v c e : ℕ) → v ≡ N (problem_of file k) → c ≡ C (problem_of file k) → Wrote l 0 (header_text v c) m e
    → Wrote l 0 (header_line (problem_of file k)) m e
unfolding header_text header_line
header_written file l m k v c e f g w = rw (← f, ← g) w
