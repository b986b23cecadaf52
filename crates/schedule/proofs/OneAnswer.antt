-- Any two answers that a promise allows are equal, lent rows after the call included.
-- Assumes nothing.
use mathlib.Core.Path.{◌≡◌, sym, ap, ◌∙◌}
use Rattle.rules.specs.Answers.{Verdict}
use Rattle.schedule.specs.Written.{lent}
use Rattle.schedule.proofs.schedule_checked.Reads as schedule-checked
use Rattle.schedule.proofs.way_back.Reads as way_back

pub one_schedule_checked : (κs : _) (a : _) (r s : Verdict) (x : _) → schedule-checked.Post κs a r x → schedule-checked.Post κs a s x → r ≡ s
one_schedule_checked κs a r s x p q = p ∙ sym q

pub one_way_back : (κs : _) (a : _) (r s : Verdict) (x y : _) → way_back.Post κs a r x → way_back.Post κs a s y
    → (r ≡ s) × (x.1.1.1.0.now ≡ y.1.1.1.0.now) × (x.1.1.1.1.0.now ≡ y.1.1.1.1.0.now)
one_way_back κs a r s x y p q =
    let rows : lent x.1.1.1.0.now x.1.1.1.1.0.now ≡ lent y.1.1.1.0.now y.1.1.1.1.0.now = p.1 ∙ sym q.1 in
    (p.0 ∙ sym q.0, ap (λ l. l.given) rows, ap (λ l. l.is_true) rows)
