-- The promise of the end of a reading allows one verdict and one content of the lent entries; the same of the lowest unmet clause and of the
-- schedule that is written.
-- Assumes nothing.
use mathlib.Core.Path.{◌≡◌, sym, ◌∙◌}
use Prim.Native.Nat.{ℕ}
use borrow.Fn.Kinds.{Dens, ended_of}
use contract.Lifetimes.{Lfts}
use denote.Triple.Clauses.{AtExit}
use Rattle.rules.specs.Answers.{Verdict}
use Rattle.checker.proofs.end.finish.Kinds as finish-kinds
use Rattle.checker.proofs.end.finish.Reads as finish
use Rattle.checker.proofs.search.lowest_unmet.Kinds as lowest-unmet-kinds
use Rattle.checker.proofs.search.lowest_unmet.Reads as lowest-unmet
use Rattle.checker.proofs.schedule.write_schedule.Kinds as write-schedule-kinds
use Rattle.checker.proofs.schedule.write_schedule.Reads as write-schedule

pub finish_decided : (κs : Lfts 4) (a : Dens κs finish-kinds.ps) (r s : Verdict) (x y : AtExit (ended_of 4 finish-kinds.ps finish-kinds.r) κs)
    → finish.Post κs a r x → finish.Post κs a s y → (r ≡ s) × (x.1.1.1.1.1.0.now ≡ y.1.1.1.1.1.0.now)
finish_decided κs a r s x y p q = (p.0 ∙ sym q.0, p.1 ∙ sym q.1)

pub lowest_unmet_decided : (κs : Lfts 4) (a : Dens κs lowest-unmet-kinds.ps) (r s : ℕ) (x y : AtExit (ended_of 4 lowest-unmet-kinds.ps lowest-unmet-kinds.r) κs)
    → lowest-unmet.Post κs a r x → lowest-unmet.Post κs a s y → r ≡ s
lowest_unmet_decided κs a r s x y p q = p ∙ sym q

pub write_schedule_decided : (κs : Lfts 5) (a : Dens κs write-schedule-kinds.ps) (x y : AtExit (ended_of 5 write-schedule-kinds.ps write-schedule-kinds.r) κs)
    → write-schedule.Post κs a tt x → write-schedule.Post κs a tt y → x.1.1.1.0.now ≡ y.1.1.1.0.now
write_schedule_decided κs a x y p q = p ∙ sym q
