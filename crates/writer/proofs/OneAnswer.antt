-- The promises of the writer allow one answer and one content of the lent room.
-- Assumes nothing.
use mathlib.Core.Path.{◌≡◌, sym, ◌∙◌}
use Prim.Native.Nat.{ℕ}
use borrow.Fn.Kinds.{Dens, ended_of}
use contract.Lifetimes.{Lfts}
use denote.Triple.Clauses.{AtExit}
use Rattle.writer.proofs.file_length.Kinds as length-kinds
use Rattle.writer.proofs.file_length.Reads as length
use Rattle.writer.proofs.write_file.Kinds as file-kinds
use Rattle.writer.proofs.write_file.Reads as file

pub one_length : (κs : Lfts 0) (a : Dens κs length-kinds.ps) (r s : ℕ) (x y : AtExit (ended_of 0 length-kinds.ps length-kinds.r) κs)
    → length.Post κs a r x → length.Post κs a s y → r ≡ s
one_length κs a r s x y p q = p ∙ sym q

pub one_file : (κs : Lfts 5) (a : Dens κs file-kinds.ps) (r s : ℕ) (x y : AtExit (ended_of 5 file-kinds.ps file-kinds.r) κs)
    → file.Post κs a r x → file.Post κs a s y → (r ≡ s) × (x.0.now ≡ y.0.now)
one_file κs a r s x y p q = (p.1 ∙ sym q.1, p.0 ∙ sym q.0)
