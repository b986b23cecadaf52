-- Laws of loops that go up from 0: a search that stops at the first number of which something holds, and a sum that grows.
-- Assumes nothing.
use Rattle.std.specs.Prelude.{Err}
use mathlib.Core.Path.{◌≡◌, refl, sym, ap, ◌∙◌}
use mathlib.Core.Logic.{⊎_elim}
use mathlib.Core.Bool.{Bool, true, false}
use mathlib.Core.List.{List, ◌∷◌}
use Prim.Native.Nat.{ℕ, ◌+◌, ◌≤◌, ◌<◌}
use native.Mathlib.Omega.{arith}
use native.Mathlib.Numerals.{add-one}
use borrow.Author.Tests.{eq-eqb, ne_eqb}
use Rattle.rules.specs.Counting.{first, sum_to}
use Rattle.rules.specs.Answers.{Rule, none_at_fault, judge}
use Rattle.rules.specs.declared.Refusal.{Refusal}
use Rattle.rules.proofs.Bools.{clash, below_or, below_suc}
use Rattle.rules.proofs.Counting.{first_before, first_at, first_is, first_none}
use Rattle.rules.proofs.Judging.{judge_refused, judge_passed}

-- ---- a search; b is what a test said of a number

module _ (p : ℕ → Bool) where
  pub none_yet : first 0 p ≡ 0
  unfolding first
  none_yet = refl

  -- none below m, and m is not one
  pub none_more : (m : ℕ) (b : Bool) → first m p ≡ m → b ≡ p m → b ≡ false → first (m + 1) p ≡ m + 1
  none_more m b h e f =
      rw add-one
      (first_none _ p (λ i l. ⊎_elim (λ k. first_before m p i (omega arith)) (λ k. ap p k ∙ sym e ∙ f) (below_suc i m l)))

  -- none below i, and i is one
  pub found_at : (m i : ℕ) (b : Bool) → first i p ≡ i → i < m → b ≡ p i → b ≡ true → i ≡ first m p
  found_at m i b h l e t = sym (first_is m p i l (sym e ∙ t) (λ j k. first_before i p j (omega arith)))

  -- none below i: the first is not below i
  pub first_beyond : (m i : ℕ) → first i p ≡ i → i ≤ m → i ≤ first m p
  first_beyond m i h l =
      ⊎_elim (λ b. clash (first_at m p (omega arith)) (first_before i p (first m p) (omega arith))) (λ b. b) (below_or (first m p) i)

  -- none below m, where the search has come
  pub none_at_all : (m i : ℕ) → first i p ≡ i → i ≤ m → m ≤ i → i ≡ first m p
  none_at_all m i h l k = let e : i ≡ m = omega arith in sym h ∙ ap (λ k. first k p) e

-- ---- a sum

module _ (w : ℕ → ℕ) where
  pub sum_yet : 0 ≡ sum_to 0 w
  unfolding sum_to
  sum_yet = refl

  pub sum_more : (m sum v : ℕ) → sum ≡ sum_to m w → v ≡ w m → sum + v ≡ sum_to (m + 1) w
  unfolding sum_to
  sum_more m sum v h e = rw (h, e, add-one)

-- ---- a rule that none of the numbers below m is at fault

module _ (m : ℕ) (p : ℕ → Bool) (refusal : ℕ → Refusal) (rs : List Rule) where
  pub judge_found : (i : ℕ) → i < m → i ≡ first m p → judge (none_at_fault m p refusal ∷ rs) ≡ Err (refusal i)
  judge_found i l e = judge_refused _ rs (ne_eqb (first m p) m (λ h. omega arith)) ∙ ap (λ k. Err (refusal k)) (sym e)

  pub judge_none : first m p ≡ m → judge (none_at_fault m p refusal ∷ rs) ≡ judge rs
  judge_none e = judge_passed _ rs (eq-eqb _ _ e)
