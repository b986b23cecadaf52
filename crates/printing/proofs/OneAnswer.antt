-- The promises of printing allow one answer and one content of the lent room.
-- Assumes nothing.
use mathlib.Core.Path.{◌≡◌, sym, ◌∙◌}
use Prim.Native.Nat.{ℕ}
use borrow.Fn.Kinds.{Dens, ended_of}
use contract.Lifetimes.{Lfts}
use denote.Triple.Clauses.{AtExit}
use Rattle.printing.proofs.schedule_text.Kinds as schedule-kinds
use Rattle.printing.proofs.schedule_text.Reads as schedule
use Rattle.printing.proofs.refusal_line.Kinds as refusal-kinds
use Rattle.printing.proofs.refusal_line.Reads as refusal

pub schedule_text_decided : (κs : Lfts 2) (a : Dens κs schedule-kinds.ps) (r s : ℕ) (x y : AtExit (ended_of 2 schedule-kinds.ps schedule-kinds.r) κs)
    → schedule.Post κs a r x → schedule.Post κs a s y → (r ≡ s) × (x.0.now ≡ y.0.now)
schedule_text_decided κs a r s x y p q = (p.1 ∙ sym q.1, p.0 ∙ sym q.0)

pub refusal_line_decided : (κs : Lfts 1) (a : Dens κs refusal-kinds.ps) (r s : ℕ) (x y : AtExit (ended_of 1 refusal-kinds.ps refusal-kinds.r) κs)
    → refusal.Post κs a r x → refusal.Post κs a s y → (r ≡ s) × (x.0.now ≡ y.0.now)
refusal_line_decided κs a r s x y p q = (p.1 ∙ sym q.1, p.0 ∙ sym q.0)
