-- The loop that packs the digits of a number into a word, from the last on.
-- Assumes nothing.
use mathlib.Core.Path.{◌≡◌, refl, sym, ◌∙◌}
use mathlib.Core.Logic.{⊎_elim}
use Prim.Native.Nat.{ℕ, ◌+◌, ◌*◌, ◌/◌, ◌%◌, ◌^◌, ◌≤◌, ◌<◌}
use native.Mathlib.Omega.{arith}
use Rattle.rules.specs.Limits.{byte_values}
use Rattle.rules.specs.Text.{digit0, decimal}
use Rattle.rules.proofs.Bools.{below_or}
use Rattle.rules.proofs.Decimal.{decimal_one, decimal_more}
use Rattle.digits.specs.Word.{in_word}
use Rattle.digits.proofs.InWords.{in_word-more, high_within}

-- the digits of rest below w are the digits of m below high, and there is room for the next of them
pub record Packing (m high w rest : ℕ) : Type 0 where
  pub same : in_word (decimal rest) w ≡ in_word (decimal m) high
  pub room : digit0 + rest % 10 + byte_values * w < 2 ^ 64

one_packed : (w rest : ℕ) → rest < 10 → in_word (decimal rest) w ≡ digit0 + rest + byte_values * w
unfolding in_word
one_packed w rest h = rw (decimal_one rest h)

more_packed : (w rest : ℕ) → 10 ≤ rest → in_word (decimal rest) w ≡ in_word (decimal (rest / 10)) (digit0 + rest % 10 + byte_values * w)
more_packed w rest h = rw (decimal_more rest h) (in_word-more (decimal (rest / 10)) (digit0 + rest % 10) w)

has_room_lem : (w rest : ℕ) → in_word (decimal rest) w < 2 ^ 64 → digit0 + rest % 10 + byte_values * w < 2 ^ 64
has_room_lem w rest l =
    ⊎_elim (λ h. omega (arith, one_packed w rest h))
    (λ h. omega (arith, more_packed w rest h, high_within (decimal (rest / 10)) (digit0 + rest % 10 + byte_values * w)))
    (below_or rest 10)

pub packing_start : (m high : ℕ) → in_word (decimal m) high < 2 ^ 64 → Packing m high high m
packing_start m high h = record { same = refl; room = has_room_lem high m h }

pub packing_more : (m high w rest : ℕ) → in_word (decimal m) high < 2 ^ 64 → Packing m high w rest → 10 ≤ rest
    → Packing m high (digit0 + rest % 10 + byte_values * w) (rest / 10)
packing_more m high w rest l p h =
    let same = sym (more_packed w rest h) ∙ p.same in
    record { same = same; room = has_room_lem (digit0 + rest % 10 + byte_values * w) (rest / 10) (rw same l) }

pub packing_end : (m high w rest : ℕ) → Packing m high w rest → rest < 10 → digit0 + rest + byte_values * w ≡ in_word (decimal m) high
packing_end m high w rest p h = sym (one_packed w rest h) ∙ p.same
