-- The promises allow one answer and one content of the lent rooms that they speak of. Of `answer` this is so for inputs that end in the first
-- part: what is read behind a full one is not known to a promise.
-- Assumes nothing.
use mathlib.Core.Path.{◌≡◌, sym, ap, ◌∙◌}
use mathlib.Core.List.{List, ◌++◌, append-nil}
use Prim.Native.Nat.{ℕ, ◌<◌}
use borrow.Fn.Kinds.{Dens, ended_of}
use contract.Lifetimes.{Lfts}
use denote.Triple.Clauses.{AtExit}
use lib.ListN.{length}
use Rattle.rules.specs.Programs.{model_output}
use Rattle.output.specs.Feeding.{feed_leaves}
use Rattle.output.specs.declared.feeding.Feed.{Feed}
use Rattle.digits.specs.Over.{over}
use Rattle.model.specs.Parts.{first_room, Answered}
use Rattle.model.proofs.parts.words_needed.Kinds as words-kinds
use Rattle.model.proofs.parts.words_needed.Reads as words
use Rattle.model.proofs.parts.begin.Kinds as begin-kinds
use Rattle.model.proofs.parts.begin.Reads as begin
use Rattle.model.proofs.parts.finish.Kinds as finish-kinds
use Rattle.model.proofs.parts.finish.Reads as finish
use Rattle.model.proofs.answer.Kinds as answer-kinds
use Rattle.model.proofs.answer.Reads as answer

pub words_needed_decided : (κs : Lfts 1) (a : Dens κs words-kinds.ps) (r s : ℕ) (x y : AtExit (ended_of 1 words-kinds.ps words-kinds.r) κs)
    → words.Post κs a r x → words.Post κs a s y → r ≡ s
words_needed_decided κs a r s x y p q = p.0 ∙ sym q.0

pub begin_decided : (κs : Lfts 4) (a : Dens κs begin-kinds.ps) (r s : Feed) (x y : AtExit (ended_of 4 begin-kinds.ps begin-kinds.r) κs)
    → begin.Post κs a r x → begin.Post κs a s y
    → (r ≡ s) × (x.1.0.now ≡ y.1.0.now) × (x.1.1.0.now ≡ y.1.1.0.now) × (x.1.1.1.0.now ≡ y.1.1.1.0.now)
begin_decided κs a r s x y p q =
    let e : feed_leaves r x.1.0.now x.1.1.0.now x.1.1.1.0.now ≡ feed_leaves s y.1.0.now y.1.1.0.now y.1.1.1.0.now =
    p.0 ∙ sym q.0 in
    (ap (λ f. record { answer = f.progress.answer; held = f.held }) e, ap (λ f. f.progress.rows.given) e, ap (λ f. f.progress.rows.is_true) e, ap (λ f. f.line) e)

pub finish_decided : (κs : Lfts 5) (a : Dens κs finish-kinds.ps) (r s : ℕ) (x y : AtExit (ended_of 5 finish-kinds.ps finish-kinds.r) κs)
    → finish.Post κs a r x → finish.Post κs a s y → (r ≡ s) × (x.1.1.1.1.1.0.now ≡ y.1.1.1.1.1.0.now)
finish_decided κs a r s x y p q = (p.1 ∙ sym q.1, p.0 ∙ sym q.0)

-- where the first part is not full, its own output is written
pub answered_exactly : (first room now : List ℕ) (end : ℕ) → length first < first_room → Answered first room now end
    → (end ≡ length (model_output first)) × (now ≡ over room 0 (model_output first))
answered_exactly first room now end h s =
    let whole : first ++ s.rest ≡ first = ap (λ r. first ++ r) (s.all h) ∙ append-nil first in
    (s.behind ∙ ap (λ i. length (model_output i)) whole, s.is ∙ ap (λ i. over room 0 (model_output i)) whole)

pub answer_decided : (κs : Lfts 5) (a : Dens κs answer-kinds.ps) (r s : ℕ) (x y : AtExit (ended_of 5 answer-kinds.ps answer-kinds.r) κs)
    → length a.0.now < first_room → answer.Post κs a r x → answer.Post κs a s y
    → (r ≡ s) × (x.1.1.1.1.0.now ≡ y.1.1.1.1.0.now)
answer_decided κs a r s x y h p q =
    let one = answered_exactly _ _ _ r h p in
    let two = answered_exactly _ _ _ s h q in
    (one.0 ∙ sym two.0, one.1 ∙ sym two.1)
