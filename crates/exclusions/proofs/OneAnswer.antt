-- Any two answers that the promise allows are equal, lent memory after the call included.
-- Assumes nothing.
use mathlib.Core.Path.{◌≡◌, sym, ◌∙◌}
use Prim.Native.Nat.{ℕ}
use Rattle.exclusions.proofs.put_exclusions.Reads as put-exclusions

pub one_end : (κs : _) (a : _) (r s : ℕ) (x y : _) → put-exclusions.Post κs a r x → put-exclusions.Post κs a s y → r ≡ s
one_end κs a r s x y p q = p.0.behind ∙ sym q.0.behind

pub one_text : (κs : _) (a : _) (r s : ℕ) (x y : _) → put-exclusions.Post κs a r x → put-exclusions.Post κs a s y → x.0.now ≡ y.0.now
one_text κs a r s x y p q = p.0.written ∙ sym q.0.written
