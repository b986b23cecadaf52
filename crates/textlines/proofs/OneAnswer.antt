-- OneAnswer: any two answers that a promise allows are equal.
-- Assumes nothing.
use mathlib.Core.Bool.{Bool}
use mathlib.Core.Path.{◌≡◌, sym, ◌∙◌}
use Rattle.std.specs.Prelude.{Result}
use Rattle.rules.specs.declared.Refusal.{Refusal}
use Rattle.textlines.specs.declared.Numbers.{Numbers}
use Rattle.textlines.proofs.says.Reads as says
use Rattle.textlines.proofs.is_fact.Reads as is-fact

pub one_said : (κs : _) (a : _) (r s : Result Numbers Refusal) (x : _) → says.Post κs a r x → says.Post κs a s x → r ≡ s
one_said κs a r s x p q = p ∙ sym q

pub one_is_fact : (κs : _) (a : _) (r s : Bool) (x : _) → is-fact.Post κs a r x → is-fact.Post κs a s x → r ≡ s
one_is_fact κs a r s x p q = p ∙ sym q
