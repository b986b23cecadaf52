-- Each public function's promise allows one answer, and one content of each lent slice.
-- Assumes nothing.
use mathlib.Core.Path.{◌≡◌, sym, ap, ap₂, ◌∙◌}
use borrow.Fn.Kinds.{Dens, ended_of}
use contract.Lifetimes.{Lfts}
use denote.Triple.Clauses.{AtExit}
use Rattle.rules.specs.Answers.{LineAnswer}
use Rattle.output.specs.Line.{leaves}
use Rattle.output.specs.Feeding.{feed_leaves}
use Rattle.output.specs.declared.feeding.Feed.{Feed}
use Rattle.output.proofs.start.Kinds as start-kinds
use Rattle.output.proofs.start.Reads as start
use Rattle.output.proofs.read_line.Kinds as read-line-kinds
use Rattle.output.proofs.read_line.Reads as read-line
use Rattle.output.proofs.feeding.begin.Kinds as begin-kinds
use Rattle.output.proofs.feeding.begin.Reads as begin
use Rattle.output.proofs.feeding.take_bytes.Kinds as take-bytes-kinds
use Rattle.output.proofs.feeding.take_bytes.Reads as take-bytes
use Rattle.output.proofs.feeding.finish.Kinds as finish-kinds
use Rattle.output.proofs.feeding.finish.Reads as finish

pub start_decided : (κs : Lfts 2) (a : Dens κs start-kinds.ps) (r s : LineAnswer) (x y : AtExit (ended_of 2 start-kinds.ps start-kinds.r) κs)
    → start.Post κs a r x → start.Post κs a s y → (r ≡ s) × (x.1.0.now ≡ y.1.0.now) × (x.1.1.0.now ≡ y.1.1.0.now)
start_decided κs a r s x y p q =
    let e : leaves r x.1.0.now x.1.1.0.now ≡ leaves s y.1.0.now y.1.1.0.now = p ∙ sym q in
    (ap (λ l. l.answer) e, ap (λ l. l.rows.given) e, ap (λ l. l.rows.is_true) e)

pub read_line_decided : (κs : Lfts 3) (a : Dens κs read-line-kinds.ps) (r s : LineAnswer) (x y : AtExit (ended_of 3 read-line-kinds.ps read-line-kinds.r) κs)
    → read-line.Post κs a r x → read-line.Post κs a s y → (r ≡ s) × (x.1.0.now ≡ y.1.0.now) × (x.1.1.0.now ≡ y.1.1.0.now)
read_line_decided κs a r s x y p q =
    let e : leaves r x.1.0.now x.1.1.0.now ≡ leaves s y.1.0.now y.1.1.0.now = p ∙ sym q in
    (ap (λ l. l.answer) e, ap (λ l. l.rows.given) e, ap (λ l. l.rows.is_true) e)

pub begin_decided : (κs : Lfts 0) (a : Dens κs begin-kinds.ps) (r s : Feed) (x y : AtExit (ended_of 0 begin-kinds.ps begin-kinds.r) κs)
    → begin.Post κs a r x → begin.Post κs a s y → r ≡ s
begin_decided κs a r s x y p q = ap₂ (λ answer held. record { answer = answer; held = held }) (p.0 ∙ sym q.0) (p.1 ∙ sym q.1)

pub take_bytes_decided : (κs : Lfts 4) (a : Dens κs take-bytes-kinds.ps) (r s : Feed) (x y : AtExit (ended_of 4 take-bytes-kinds.ps take-bytes-kinds.r) κs)
    → take-bytes.Post κs a r x → take-bytes.Post κs a s y
    → (r ≡ s) × (x.1.0.now ≡ y.1.0.now) × (x.1.1.0.now ≡ y.1.1.0.now) × (x.1.1.1.0.now ≡ y.1.1.1.0.now)
take_bytes_decided κs a r s x y p q =
    let e : feed_leaves r x.1.0.now x.1.1.0.now x.1.1.1.0.now ≡ feed_leaves s y.1.0.now y.1.1.0.now y.1.1.1.0.now = p ∙ sym q in
    (ap (λ f. record { answer = f.progress.answer; held = f.held }) e, ap (λ f. f.progress.rows.given) e, ap (λ f. f.progress.rows.is_true) e, ap (λ f. f.line) e)

pub finish_decided : (κs : Lfts 3) (a : Dens κs finish-kinds.ps) (r s : LineAnswer) (x y : AtExit (ended_of 3 finish-kinds.ps finish-kinds.r) κs)
    → finish.Post κs a r x → finish.Post κs a s y → (r ≡ s) × (x.1.0.now ≡ y.1.0.now) × (x.1.1.0.now ≡ y.1.1.0.now)
finish_decided κs a r s x y p q =
    let e : leaves r x.1.0.now x.1.1.0.now ≡ leaves s y.1.0.now y.1.1.0.now = p ∙ sym q in
    (ap (λ l. l.answer) e, ap (λ l. l.rows.given) e, ap (λ l. l.rows.is_true) e)
