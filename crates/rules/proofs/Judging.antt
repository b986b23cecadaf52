-- Laws of judging: rules are met together exactly if each holds.
-- Assumes nothing.
use Rattle.std.specs.Prelude.{Ok, Err}
use mathlib.Core.Path.{◌≡◌, refl, sym, ◌∙◌}
use mathlib.Core.Logic.{⊎_elim}
use mathlib.Core.Bool.{true, false}
use mathlib.Core.List.{List, [], ◌∷◌, ◌++◌}
use Prim.Native.Nat.{ℕ}
use native.Mathlib.Omega.{arith}
use Rattle.rules.specs.Answers.{Rule, judge, in_turn, Verdict}
use Rattle.rules.specs.declared.Refusal.{Refusal}
use Rattle.rules.proofs.Bools.{either}

pub refused_not {ℓ} : {X : Type ℓ} {why : Refusal} → ◌≡◌ {A = Verdict} (Err why) (Ok tt) → X
refused_not h = let z : ◌≡◌ {A = ℕ} 0 1 = cc in absurd (omega arith)

pub judge_nil : judge [] ≡ Ok tt
unfolding judge
judge_nil = refl

-- a rule that does not hold refuses
pub judge_refused : (r : Rule) (rs : List Rule) → r.holds ≡ false → judge (r ∷ rs) ≡ Err r.refusal
unfolding judge
judge_refused r rs h = rw h

pub judge_passed : (r : Rule) (rs : List Rule) → r.holds ≡ true → judge (r ∷ rs) ≡ judge rs
unfolding judge
judge_passed r rs h = rw h

-- accepted: the first rule holds, and the others accept
pub judge_head : (r : Rule) (rs : List Rule) → judge (r ∷ rs) ≡ Ok tt → r.holds ≡ true
judge_head r rs h = ⊎_elim (λ t. t) (λ t. refused_not (sym (judge_refused r rs t) ∙ h)) (either r.holds)

pub judge_tail : (r : Rule) (rs : List Rule) → judge (r ∷ rs) ≡ Ok tt → judge rs ≡ Ok tt
judge_tail r rs h = sym (judge_passed r rs (judge_head r rs h)) ∙ h

pub judge_cons : (r : Rule) (rs : List Rule) → r.holds ≡ true → judge rs ≡ Ok tt → judge (r ∷ rs) ≡ Ok tt
judge_cons r rs h k = judge_passed r rs h ∙ k

-- rules one behind the other are judged one behind the other
pub judge_append : (rs qs : List Rule) → judge (rs ++ qs) ≡ in_turn (judge rs) (judge qs)
unfolding judge
judge_append [] qs = refl
judge_append (r ∷ rs) qs =
    ⊎_elim (λ t. rw t (judge_append rs qs)) (λ t. rw t refl) (either r.holds)

pub in_turn-left : (a b : Verdict) → in_turn a b ≡ Ok tt → a ≡ Ok tt
in_turn-left (Ok _) b h = refl
in_turn-left (Err why) b h = h

pub in_turn-right : (a b : Verdict) → in_turn a b ≡ Ok tt → b ≡ Ok tt
in_turn-right (Ok _) b h = h
in_turn-right (Err why) b h = refused_not h

pub in_turn-both : (a b : Verdict) → a ≡ Ok tt → b ≡ Ok tt → in_turn a b ≡ Ok tt
in_turn-both a b h k = rw (h, k)
