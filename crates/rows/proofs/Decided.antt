-- Each public function's promise allows one answer, and one content of the lent row.
-- Assumes nothing.
use mathlib.Core.Path.{◌≡◌, sym, ◌∙◌}
use mathlib.Core.Bool.{Bool}
use Prim.Native.Nat.{ℕ}
use borrow.Fn.Kinds.{Dens, ended_of}
use contract.Lifetimes.{Lfts}
use denote.Triple.Clauses.{AtExit}
use Rattle.rows.proofs.words_for.Kinds as words-for-kinds
use Rattle.rows.proofs.words_for.Reads as words-for
use Rattle.rows.proofs.is_set.Kinds as is-set-kinds
use Rattle.rows.proofs.is_set.Reads as is_set
use Rattle.rows.proofs.set_bit.Kinds as set-bit-kinds
use Rattle.rows.proofs.set_bit.Reads as set-bit
use Rattle.rows.proofs.clear.Kinds as clear-kinds
use Rattle.rows.proofs.clear.Reads as clear
use Rattle.rows.proofs.counts_true.Kinds as counts-true-kinds
use Rattle.rows.proofs.counts_true.Reads as counts-true
use Rattle.rows.proofs.count_set.Kinds as count-set-kinds
use Rattle.rows.proofs.count_set.Reads as count_set
use Rattle.rows.proofs.first_set.Kinds as first-set-kinds
use Rattle.rows.proofs.first_set.Reads as first-set

pub words_for_decided : (κs : Lfts 0) (a : Dens κs words-for-kinds.ps) (r s : ℕ) (x y : AtExit (ended_of 0 words-for-kinds.ps words-for-kinds.r) κs)
    → words-for.Post κs a r x → words-for.Post κs a s y → r ≡ s
words_for_decided κs a r s x y p q = p ∙ sym q

pub is_set_decided : (κs : Lfts 1) (a : Dens κs is-set-kinds.ps) (r s : Bool) (x y : AtExit (ended_of 1 is-set-kinds.ps is-set-kinds.r) κs)
    → is_set.Post κs a r x → is_set.Post κs a s y → r ≡ s
is_set_decided κs a r s x y p q = p ∙ sym q

pub set_bit_decided : (κs : Lfts 1) (a : Dens κs set-bit-kinds.ps) (x y : AtExit (ended_of 1 set-bit-kinds.ps set-bit-kinds.r) κs)
    → set-bit.Post κs a tt x → set-bit.Post κs a tt y → x.0.now ≡ y.0.now
set_bit_decided κs a x y p q = p ∙ sym q

pub clear_decided : (κs : Lfts 1) (a : Dens κs clear-kinds.ps) (x y : AtExit (ended_of 1 clear-kinds.ps clear-kinds.r) κs)
    → clear.Post κs a tt x → clear.Post κs a tt y → x.0.now ≡ y.0.now
clear_decided κs a x y p q = p ∙ sym q

pub count_set_decided : (κs : Lfts 2) (a : Dens κs count-set-kinds.ps) (r s : ℕ) (x y : AtExit (ended_of 2 count-set-kinds.ps count-set-kinds.r) κs)
    → count_set.Post κs a r x → count_set.Post κs a s y → r ≡ s
count_set_decided κs a r s x y p q = p ∙ sym q

pub first_set_decided : (κs : Lfts 2) (a : Dens κs first-set-kinds.ps) (r s : ℕ) (x y : AtExit (ended_of 2 first-set-kinds.ps first-set-kinds.r) κs)
    → first-set.Post κs a r x → first-set.Post κs a s y → r ≡ s
first_set_decided κs a r s x y p q = p ∙ sym q

pub counts_true_decided : (κs : Lfts 2) (a : Dens κs counts-true-kinds.ps) (r s : Bool) (x y : AtExit (ended_of 2 counts-true-kinds.ps counts-true-kinds.r) κs)
    → counts-true.Post κs a r x → counts-true.Post κs a s y → r ≡ s
counts_true_decided κs a r s x y p q = p ∙ sym q
