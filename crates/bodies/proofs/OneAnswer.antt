-- Any two answers that a promise allows are equal, lent bytes after the call included.
-- Assumes nothing.
use mathlib.Core.Path.{◌≡◌, sym, ap, ◌∙◌}
use mathlib.Core.List.{List}
use Prim.Native.Nat.{ℕ}
use Rattle.bodies.specs.Keeping.{Keeping, keeps}
use Rattle.bodies.specs.declared.Kept.{Kept}
use Rattle.bodies.proofs.nothing_kept.Reads as nothing-kept
use Rattle.bodies.proofs.in_order.insert_pair.Reads as insert-pair
use Rattle.bodies.proofs.keep_size.Reads as keep-size
use Rattle.bodies.proofs.keep_start.Reads as keep-start
use Rattle.bodies.proofs.keep_goal.Reads as keep-goal
use Rattle.bodies.proofs.keep_precondition.Reads as keep-precondition
use Rattle.bodies.proofs.keep_effect.Reads as keep-effect
use Rattle.bodies.proofs.keep_action.Reads as keep-action

same_keeping : (r s : Kept) (x y : List ℕ) (k : Keeping) → keeps r x ≡ k → keeps s y ≡ k → (r ≡ s) × (x ≡ y)
same_keeping r s x y k p q = (ap (λ m. m.kept) (p ∙ sym q), ap (λ m. m.body) (p ∙ sym q))

pub one_nothing_kept : (κs : _) (a : _) (r s : Kept) (x : _) → nothing-kept.Post κs a r x → nothing-kept.Post κs a s x → r ≡ s
one_nothing_kept κs a r s x p q = p.0 ∙ sym q.0

pub one_insert_pair : (κs : _) (a : _) (r s : _) (x y : _) → insert-pair.Post κs a r x → insert-pair.Post κs a s y → x.0.now ≡ y.0.now
one_insert_pair κs a r s x y p q = p ∙ sym q

pub one_keep_size : (κs : _) (a : _) (r s : Kept) (x y : _) → keep-size.Post κs a r x → keep-size.Post κs a s y
    → (r ≡ s) × (x.1.0.now ≡ y.1.0.now)
one_keep_size κs a r s x y p q = same_keeping r s _ _ _ p.0 q.0

pub one_keep_start : (κs : _) (a : _) (r s : Kept) (x y : _) → keep-start.Post κs a r x → keep-start.Post κs a s y
    → (r ≡ s) × (x.1.0.now ≡ y.1.0.now)
one_keep_start κs a r s x y p q = same_keeping r s _ _ _ p.0 q.0

pub one_keep_goal : (κs : _) (a : _) (r s : Kept) (x y : _) → keep-goal.Post κs a r x → keep-goal.Post κs a s y
    → (r ≡ s) × (x.1.0.now ≡ y.1.0.now)
one_keep_goal κs a r s x y p q = same_keeping r s _ _ _ p.0 q.0

pub one_keep_precondition : (κs : _) (a : _) (r s : Kept) (x y : _) → keep-precondition.Post κs a r x → keep-precondition.Post κs a s y
    → (r ≡ s) × (x.1.0.now ≡ y.1.0.now)
one_keep_precondition κs a r s x y p q = same_keeping r s _ _ _ p.0 q.0

pub one_keep_effect : (κs : _) (a : _) (r s : Kept) (x y : _) → keep-effect.Post κs a r x → keep-effect.Post κs a s y
    → (r ≡ s) × (x.1.0.now ≡ y.1.0.now)
one_keep_effect κs a r s x y p q = same_keeping r s _ _ _ p.0 q.0

pub one_keep_action : (κs : _) (a : _) (r s : Kept) (x y : _) → keep-action.Post κs a r x → keep-action.Post κs a s y
    → (r ≡ s) × (x.1.0.now ≡ y.1.0.now)
one_keep_action κs a r s x y p q = same_keeping r s _ _ _ p.0 q.0
