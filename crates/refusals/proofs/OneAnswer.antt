-- OneAnswer: any two answers that a promise allows are equal.
-- Assumes nothing.
use Prim.Native.Nat.{ℕ}
use mathlib.Core.Path.{◌≡◌, sym, ◌∙◌}
use borrow.Fn.Kinds.{Dens, ended_of}
use contract.Lifetimes.{Lfts}
use denote.Triple.Clauses.{AtExit}
use Rattle.refusals.proofs.number_of.Kinds as number-kinds
use Rattle.refusals.proofs.number_of.Reads as number
use Rattle.refusals.proofs.detail_of.Kinds as detail-kinds
use Rattle.refusals.proofs.detail_of.Reads as detail

pub one_number : (κs : Lfts 0) (a : Dens κs number-kinds.ps) (r s : ℕ) (x y : AtExit (ended_of 0 number-kinds.ps number-kinds.r) κs) → number.Post κs a r x → number.Post κs a s y → r ≡ s
one_number κs a r s x y p q = p ∙ sym q

pub one_detail : (κs : Lfts 0) (a : Dens κs detail-kinds.ps) (r s : ℕ) (x y : AtExit (ended_of 0 detail-kinds.ps detail-kinds.r) κs) → detail.Post κs a r x → detail.Post κs a s y → r ≡ s
one_detail κs a r s x y p q = p ∙ sym q
