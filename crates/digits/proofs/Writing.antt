-- The loops of this crate: counting digits by powers of ten, and writing them from the last on.
-- Assumes nothing.
use mathlib.Core.Path.{◌≡◌, refl, sym, ap, ◌∙◌}
use mathlib.Core.List.{List, [], ◌∷◌}
use Prim.Native.Nat.{ℕ, suc, ◌+◌, ◌-◌, ◌*◌, ◌/◌, ◌%◌, ◌^◌, ◌≤◌, ◌<◌}
use native.Mathlib.Omega.{arith}
use native.Mathlib.Nat.{pow-suc}
use native.Mathlib.Numerals.{add-one}
use lib.ListN.{length, set, length-set}
use Rattle.rules.specs.Text.{digit0, decimal}
use Rattle.rules.proofs.Decimal.{decimal_one, decimal_more, decimal_length_one, decimal_length_more, decimal_some, decimal_length}
use Rattle.digits.specs.Over.{over}
use Rattle.digits.proofs.Overs.{set_over, over_last}

-- ---- counting

pub one_digit : (m : ℕ) → m < 10 → 1 ≡ length (decimal m)
one_digit m h = sym (decimal_length_one m h)

-- ten to the power n is at most m, and ten times as much is above it
pub more_digits : (m n : ℕ) → 10 ^ n ≤ m → m < 10 * 10 ^ n → n + 1 ≡ length (decimal m)
more_digits m n h l = add-one n ∙ sym (decimal_length n m h (rw (pow-suc 10 n) (omega arith)))

-- ---- writing

-- the digits of rest are not yet written, the last of them belongs at i, and with them the writing is done
pub record Unwritten (room : List ℕ) (at m : ℕ) (now : List ℕ) (i rest : ℕ) : Type 0 where
  pub place : suc i ≡ at + length (decimal rest)
  pub within : i < length now
  pub kept : length now ≡ length room
  pub same : over now at (decimal rest) ≡ over room at (decimal m)

pub end_behind : (at m n : ℕ) → n ≡ length (decimal m) → 1 ≤ at + n
end_behind at m n e = omega (arith, decimal_some m)

pub unwritten_start : (room : List ℕ) (at m n : ℕ) → n ≡ length (decimal m) → at + length (decimal m) ≤ length room → Unwritten room at m room (at + n - 1) m
unwritten_start room at m n e h =
    let some = decimal_some m in
    record { place = omega arith; within = omega arith; kept = refl; same = refl }

pub unwritten_before : (room : List ℕ) (at m : ℕ) (now : List ℕ) (i rest : ℕ) → Unwritten room at m now i rest → 10 ≤ rest → 1 ≤ i
unwritten_before room at m now i rest u h = omega (arith, decimal_length_more rest h, decimal_some (rest / 10))

pub unwritten_more : (room : List ℕ) (at m : ℕ) (now : List ℕ) (i rest : ℕ) → Unwritten room at m now i rest → 10 ≤ rest
    → Unwritten room at m (set now i (digit0 + rest % 10)) (i - 1) (rest / 10)
unwritten_more room at m now i rest u h =
    let one = decimal_length_more rest h in
    let some = decimal_some (rest / 10) in
    let here : i ≡ at + length (decimal (rest / 10)) = omega arith in
    let kept : length (set now i (digit0 + rest % 10)) ≡ length now = length-set now i (digit0 + rest % 10) in
    record {
      place = omega arith;
      within = omega arith;
      kept = omega arith;
      same = ap (λ p. over (set now p (digit0 + rest % 10)) at (decimal (rest / 10))) here
          ∙ over_last now at (decimal (rest / 10)) (digit0 + rest % 10) (omega arith)
          ∙ ap (over now at) (sym (decimal_more rest h))
          ∙ u.same;
    }

pub unwritten_end : (room : List ℕ) (at m : ℕ) (now : List ℕ) (i rest : ℕ) → Unwritten room at m now i rest → rest < 10
    → set now i (digit0 + rest) ≡ over room at (decimal m)
unwritten_end room at m now i rest u h =
    let one = decimal_length_one rest h in
    let here : i ≡ at = omega arith in
    set_over now i (digit0 + rest) u.within
    ∙ ap (λ p. over now p ((digit0 + rest) ∷ [])) here
    ∙ ap (over now at) (sym (decimal_one rest h))
    ∙ u.same
