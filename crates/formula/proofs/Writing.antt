-- Literals in lent memory: the signed number that a word holds, and one literal written behind others.
-- Assumes nothing.
use mathlib.Core.Path.{◌≡◌, refl, sym, ap, ◌∙◌}
use mathlib.Core.List.{List, [], ◌∷◌, ◌++◌, map, map-append}
use Prim.Native.Nat.{ℕ, zero, suc, ◌+◌, ◌^◌, ◌≤◌, ◌<◌}
use native.Mathlib.Omega.{arith}
use native.Mathlib.Nat.{lt_of_le_of_lt}
use lib.Dec.{lit<}
use lib.IntN.{ℤ, pos, neg_ℤ, ◌-ℤ◌, +ℤ_idl}
use lib.ListN.{length, set, length-map}
use mir.Syntax.{w32}
use mir.Val.{hbits, SFits, of_z, to_z}
use mir.ValLaws.{to_z_pos, to_z-of_z}
use Rattle.rules.specs.Limits.{max_n}
use Rattle.rules.specs.Families.{Literal, plus, minus, signed}
use Rattle.digits.specs.Over.{over}
use Rattle.digits.proofs.Overs.{over_over, over_none, length_over, set_over}
use Rattle.formula.specs.Front.{written}

-- ---- signed numbers

small : (n : ℕ) → n ≤ max_n → n < 2 ^ hbits w32
small n h = lt_of_le_of_lt h (lit< tt)

read_plus : (n : ℕ) → n ≤ max_n → to_z w32 n ≡ pos n
read_plus n h = to_z_pos w32 n (small n h)

negated_fits : (n : ℕ) → n ≤ max_n → SFits w32 (neg_ℤ (pos n))
negated_fits zero h = record { sfits = small 0 h }
negated_fits (suc n) h = record { sfits = small n (omega arith) }

negated : (n : ℕ) → n ≤ max_n → pos 0 -ℤ to_z w32 n ≡ neg_ℤ (pos n)
negated n h = ap (λ z. pos 0 -ℤ z) (read_plus n h) ∙ +ℤ_idl (neg_ℤ (pos n))

pub minus_fits : (n m : ℕ) → m ≡ n → n ≤ max_n → SFits w32 (pos 0 -ℤ to_z w32 m)
minus_fits n m e h = rw (e, negated n h) (negated_fits n h)

-- ---- one literal

written_one : (lent : List ℤ) (at : ℕ) (l : Literal) (z : ℤ) → at < length lent → z ≡ signed l → set lent at z ≡ written lent at (l ∷ [])
unfolding written
written_one lent at l z h e = rw e (set_over lent at (signed l) h)

module _ (lent : List ℤ) (at n m : ℕ) (h : at < length lent) (few : n ≤ max_n) (e : m ≡ n) where
  pub plus_written : set lent at (to_z w32 m) ≡ written lent at (plus n ∷ [])
  plus_written = written_one lent at (plus n) (to_z w32 m) h (ap (to_z w32) e ∙ read_plus n few)

  pub minus_written : set lent at (to_z w32 (of_z w32 (pos 0 -ℤ to_z w32 m))) ≡ written lent at (minus n ∷ [])
  minus_written =
      written_one lent at (minus n) _ h
      (ap (λ m. to_z w32 (of_z w32 (pos 0 -ℤ to_z w32 m))) e ∙ ap (λ z. to_z w32 (of_z w32 z)) (negated n few) ∙ to_z-of_z w32 (neg_ℤ (pos n)) (negated_fits n few))

-- ---- one behind the other

pub length-written : (lent out : List ℤ) (at : ℕ) (ls : List Literal) → at + length ls ≤ length lent → out ≡ written lent at ls → length out ≡ length lent
unfolding written
length-written lent out at ls h e = ap length e ∙ length_over lent at (map signed ls) (omega (arith, length-map ls signed))

pub written_none : (lent : List ℤ) (at : ℕ) → lent ≡ written lent at []
unfolding written
written_none lent at = sym (over_none lent at)

pub written_on : (lent out next : List ℤ) (at here : ℕ) (ls ms : List Literal) → out ≡ written lent at ls → here ≡ at + length ls
    → next ≡ written out here ms → next ≡ written lent at (ls ++ ms)
unfolding written
written_on lent out next at here ls ms e eh en =
    en
    ∙ ap (λ o. over o here (map signed ms)) e
    ∙ ap (λ h. over (over lent at (map signed ls)) h (map signed ms)) (eh ∙ ap (λ m. at + m) (sym (length-map ls signed)))
    ∙ over_over lent at (map signed ls) (map signed ms)
    ∙ ap (over lent at) (sym (map-append signed ls ms))

-- two of them, from the front on
pub two_written : (lent out next : List ℤ) (l m : Literal) → out ≡ written lent 0 (l ∷ []) → next ≡ written out 1 (m ∷ []) → next ≡ written lent 0 (l ∷ m ∷ [])
two_written lent out next l m e en = written_on lent out next 0 1 (l ∷ []) (m ∷ []) e refl en

pub two_long : (lent out : List ℤ) (l m : Literal) → 2 ≤ length lent → out ≡ written lent 0 (l ∷ m ∷ []) → length out ≡ length lent
two_long lent out l m h e = length-written lent out 0 (l ∷ m ∷ []) (omega arith) e
