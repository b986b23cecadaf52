-- Any two answers that a promise allows are equal.
-- Assumes nothing.
use mathlib.Core.Path.{◌≡◌, sym, ap, ◌∙◌}
use Rattle.rules.proofs.Pairs.{same_pair}
use Rattle.pairs.specs.declared.RisingPair.{RisingPair}
use Rattle.pairs.proofs.number_of_pair.Reads as number-of-pair
use Rattle.pairs.proofs.pair_of.Reads as pair_of

pub one_number : (κs : _) (a : _) (p q : _) (x : _) → number-of-pair.Post κs a p x → number-of-pair.Post κs a q x → p ≡ q
one_number κs a p q x h k = h.is ∙ sym k.is

pub one_pair : (κs : _) (a : _) (p q : RisingPair) (x : _) → pair_of.Post κs a p x → pair_of.Post κs a q x → p ≡ q
one_pair κs a p q x h k =
    let e = same_pair _ _ _ _ _ _ h k in
    ap (λ first. record { first = first; second = p.second }) e.0 ∙ ap (λ second. record { first = q.first; second = second }) e.1
