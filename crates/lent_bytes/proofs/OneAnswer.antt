-- OneAnswer: any two answers that a promise allows are equal.
-- Assumes nothing.
use Prim.Native.Nat.{ℕ}
use mathlib.Core.Bool.{Bool}
use mathlib.Core.Path.{◌≡◌, sym, ◌∙◌}
use borrow.Fn.Kinds.{Dens, ended_of}
use contract.Lifetimes.{Lfts}
use denote.Triple.Clauses.{AtExit}
use Rattle.lent_bytes.proofs.byte_at.Kinds as byte-kinds
use Rattle.lent_bytes.proofs.byte_at.Reads as byte
use Rattle.lent_bytes.proofs.number_at.Kinds as number-kinds
use Rattle.lent_bytes.proofs.number_at.Reads as number
use Rattle.lent_bytes.proofs.texts.shared.Reads as shared
use Rattle.lent_bytes.proofs.texts.is_same.Reads as is_same
use Rattle.lent_bytes.proofs.words.word_end.Reads as word_end
use Rattle.lent_bytes.proofs.words.line_end.Reads as line-end
use Rattle.lent_bytes.proofs.words.is_digit.Reads as is_digit
use Rattle.lent_bytes.proofs.words.value.Reads as value

pub one_byte : (κs : Lfts 1) (a : Dens κs byte-kinds.ps) (r s : ℕ) (x y : AtExit (ended_of 1 byte-kinds.ps byte-kinds.r) κs) → byte.Post κs a r x → byte.Post κs a s y → r ≡ s
one_byte κs a r s x y p q = p ∙ sym q

pub one_number : (κs : Lfts 1) (a : Dens κs number-kinds.ps) (r s : ℕ) (x y : AtExit (ended_of 1 number-kinds.ps number-kinds.r) κs) → number.Post κs a r x → number.Post κs a s y → r ≡ s
one_number κs a r s x y p q = p.0 ∙ sym q.0

pub one_shared : (κs : _) (a : _) (r s : ℕ) (x : _) → shared.Post κs a r x → shared.Post κs a s x → r ≡ s
one_shared κs a r s x p q = p ∙ sym q

pub one_is_same : (κs : _) (a : _) (r s : Bool) (x : _) → is_same.Post κs a r x → is_same.Post κs a s x → r ≡ s
one_is_same κs a r s x p q = p ∙ sym q

pub one_word_end : (κs : _) (a : _) (r s : ℕ) (x : _) → word_end.Post κs a r x → word_end.Post κs a s x → r ≡ s
one_word_end κs a r s x p q = p.is ∙ sym q.is

pub one_line_end : (κs : _) (a : _) (r s : ℕ) (x : _) → line-end.Post κs a r x → line-end.Post κs a s x → r ≡ s
one_line_end κs a r s x p q = p.is ∙ sym q.is

pub one_is_digit : (κs : _) (a : _) (r s : Bool) (x : _) → is_digit.Post κs a r x → is_digit.Post κs a s x → r ≡ s
one_is_digit κs a r s x p q = p ∙ sym q

pub one_value : (κs : _) (a : _) (r s : ℕ) (x : _) → value.Post κs a r x → value.Post κs a s x → r ≡ s
one_value κs a r s x p q = p ∙ sym q
