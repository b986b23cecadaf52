-- Any two answers that a promise allows are equal, lent values after the call included.
-- Assumes nothing.
use mathlib.Core.Path.{◌≡◌, refl, sym, ◌∙◌}
use mathlib.Core.Bool.{Bool}
use mathlib.Core.List.{List}
use Prim.Native.Nat.{ℕ}
use Rattle.rules.specs.File.{action_in}
use Rattle.rules.specs.Walk.{set_pairs}
use Rattle.walk.specs.declared.State.{State}
use Rattle.walk.proofs.start.Reads as start
use Rattle.walk.proofs.applies.Reads as applies
use Rattle.walk.proofs.unmet.Reads as unmet
use Rattle.walk.proofs.set_effects.Reads as set-effects
use Rattle.walk.proofs.apply.Reads as apply
use Rattle.walk.proofs.after.Reads as after

same_state : (r s : State) (l : List ℕ) → r.values ≡ l → s.values ≡ l → r ≡ s
same_state r s l p q = λ i. record { values = (p ∙ sym q) i }

pub one_start : (κs : _) (a : _) (r s : State) (x : _) → start.Post κs a r x → start.Post κs a s x → r ≡ s
one_start κs a r s x p q = same_state r s _ p q

pub one_applies : (κs : _) (a : _) (r s : Bool) (x : _) → applies.Post κs a r x → applies.Post κs a s x → r ≡ s
one_applies κs a r s x p q = p ∙ sym q

pub one_unmet : (κs : _) (a : _) (r s : ℕ) (x : _) → unmet.Post κs a r x → unmet.Post κs a s x → r ≡ s
one_unmet κs a r s x p q = p ∙ sym q

pub one_set_effects : (κs : _) (a : _) (r s : _) (x y : _) → set-effects.Post κs a r x → set-effects.Post κs a s y → x.0.now ≡ y.0.now
one_set_effects κs a r s x y p q = p ∙ sym q

pub one_after : (κs : _) (a : _) (r s : State) (x : _) → after.Post κs a r x → after.Post κs a s x → r ≡ s
one_after κs a r s x p q = same_state r s _ p q

-- what `apply` promises of the state that it leaves, word for word from its contract
abbrev pub Left : (state : State) (action : List ℕ) → State → Type 0
Left state action z = z.values ≡ set_pairs state.values (action_in action).effects

apply_promises : (κs : _) (a : _) (r : _) (x : _) → apply.Post κs a r x ≡ Left a.0.now a.1.0.now x.0.now
apply_promises κs a r x = refl

pub one_apply : (state : State) (action : List ℕ) (y z : State) → Left state action y → Left state action z → y ≡ z
one_apply state action y z p q = same_state y z _ p q

pub one_apply_call : (κs : _) (a : _) (r s : _) (x y : _) → apply.Post κs a r x → apply.Post κs a s y → x.0.now ≡ y.0.now
one_apply_call κs a r s x y p q = one_apply a.0.now a.1.0.now x.0.now y.0.now p q
