-- Any two answers that a promise allows are equal, with all that is lent after the call: they are put together in one record where the promise puts
-- them together.
-- Assumes nothing.
use mathlib.Core.Path.{◌≡◌, sym, ◌∙◌}
use Rattle.translator.specs.Intake.{memory, taken, ended, Translation}
use Rattle.translator.specs.declared.intake.Intake.{Intake}
use Rattle.translator.proofs.intake.begin.Reads as begin
use Rattle.translator.proofs.intake.take_bytes.Reads as take-bytes
use Rattle.translator.proofs.ending.finish.Reads as finish
use Rattle.translator.proofs.translate.Reads as translate

pub one_begin : (κs : _) (a : _) (r s : Intake) (x : _) → begin.Post κs a r x → begin.Post κs a s x → r ≡ s
one_begin κs a r s x p q = p ∙ sym q

pub one_take_bytes : (κs : _) (a : _) (r s : Intake) (x y : _) → take-bytes.Post κs a r x → take-bytes.Post κs a s y
    → taken r (memory x.1.0.now x.1.1.0.now x.1.1.1.0.now x.1.1.1.1.0.now) x.1.1.1.1.1.0.now
    ≡ taken s (memory y.1.0.now y.1.1.0.now y.1.1.1.0.now y.1.1.1.1.0.now) y.1.1.1.1.1.0.now
one_take_bytes κs a r s x y p q = p ∙ sym q

pub one_finish : (κs : _) (a : _) (r s : Translation) (x y : _) → finish.Post κs a r x → finish.Post κs a s y
    → ended r x.1.1.1.1.1.1.0.now ≡ ended s y.1.1.1.1.1.1.0.now
one_finish κs a r s x y p q = p ∙ sym q

pub one_translate : (κs : _) (a : _) (r s : Translation) (x y : _) → translate.Post κs a r x → translate.Post κs a s y
    → (r ≡ s) × (x.1.0.now ≡ y.1.0.now)
one_translate κs a r s x y p q = (p.0 ∙ sym q.0, p.1 ∙ sym q.1)
