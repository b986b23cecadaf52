-- The start's promise allows one answer, and one content of each row.
-- Assumes nothing.
use mathlib.Core.Path.{◌≡◌, sym, ap, ◌∙◌}
use borrow.Fn.Kinds.{Dens, ended_of}
use contract.Lifetimes.{Lfts}
use denote.Triple.Clauses.{AtExit}
use Rattle.rules.specs.Answers.{LineAnswer}
use Rattle.output.specs.Line.{leaves}
use Rattle.opening.proofs.start.Kinds as start-kinds
use Rattle.opening.proofs.start.Reads as start

pub start_decided : (κs : Lfts 3) (a : Dens κs start-kinds.ps) (r s : LineAnswer) (x y : AtExit (ended_of 3 start-kinds.ps start-kinds.r) κs)
    → start.Post κs a r x → start.Post κs a s y → (r ≡ s) × (x.1.1.0.now ≡ y.1.1.0.now) × (x.1.1.1.0.now ≡ y.1.1.1.0.now)
start_decided κs a r s x y p q =
    let e : leaves r x.1.1.0.now x.1.1.1.0.now ≡ leaves s y.1.1.0.now y.1.1.1.0.now = p ∙ sym q in
    (ap (λ l. l.answer) e, ap (λ l. l.rows.given) e, ap (λ l. l.rows.is_true) e)
