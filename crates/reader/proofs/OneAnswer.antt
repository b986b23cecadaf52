-- Any two answers that a promise allows are equal: of a part that is handed back its bytes and its pointer, which is all that it is.
-- Assumes nothing.
use mathlib.Core.Path.{◌≡◌, sym, ◌∙◌}
use mathlib.Core.List.{List}
use Prim.Native.Nat.{ℕ}
use denote.Ref.{Bor}
use Rattle.rules.specs.Answers.{Verdict}
use Rattle.reader.specs.Stretches.{Stretch}
use Rattle.reader.proofs.contents.contents_verdict.Reads as contents-verdict
use Rattle.reader.proofs.contents.byte_at.Reads as byte_at
use Rattle.reader.proofs.contents.body_start.Reads as body-start
use Rattle.reader.proofs.contents.body_length.Reads as body-length
use Rattle.reader.proofs.contents.row_body.Reads as row-body
use Rattle.reader.proofs.contents.body_asked.Reads as body-asked
use Rattle.reader.proofs.file.bodies_verdict.Reads as bodies-verdict
use Rattle.reader.proofs.file.file_verdict.Reads as file-verdict

same_stretch : (whole r s : Bor (List ℕ)) (at : ℕ) (bytes : List ℕ) → Stretch whole r at bytes → Stretch whole s at bytes → r ≡ s
same_stretch whole r s at bytes p q =
    λ i. record { ref_ptr = ((p.memory ∙ sym q.memory) i, (p.from ∙ sym q.from) i); now = (p.holds ∙ sym q.holds) i }

pub one_contents_verdict : (κs : _) (a : _) (r s : Verdict) (x : _) → contents-verdict.Post κs a r x → contents-verdict.Post κs a s x → r ≡ s
one_contents_verdict κs a r s x p q = p ∙ sym q

pub one_file_verdict : (κs : _) (a : _) (r s : Verdict) (x : _) → file-verdict.Post κs a r x → file-verdict.Post κs a s x → r ≡ s
one_file_verdict κs a r s x p q = p ∙ sym q

pub one_bodies_verdict : (κs : _) (a : _) (r s : Verdict) (x : _) → bodies-verdict.Post κs a r x → bodies-verdict.Post κs a s x → r ≡ s
one_bodies_verdict κs a r s x p q = p ∙ sym q

pub one_row_body : (κs : _) (a : _) (r s : Bor (List ℕ)) (x : _) → row-body.Post κs a r x → row-body.Post κs a s x → r ≡ s
one_row_body κs a r s x p q = same_stretch _ r s _ _ p q

pub one_body_asked : (κs : _) (a : _) (r s : Bor (List ℕ)) (x : _) → body-asked.Post κs a r x → body-asked.Post κs a s x → r ≡ s
one_body_asked κs a r s x p q = same_stretch _ r s _ _ p q

pub one_byte_at : (κs : _) (a : _) (r s : ℕ) (x : _) → byte_at.Post κs a r x → byte_at.Post κs a s x → r ≡ s
one_byte_at κs a r s x p q = p.0 ∙ sym q.0

pub one_body_start : (κs : _) (a : _) (r s : ℕ) (x : _) → body-start.Post κs a r x → body-start.Post κs a s x → r ≡ s
one_body_start κs a r s x p q = p.0 ∙ sym q.0

pub one_body_length : (κs : _) (a : _) (r s : ℕ) (x : _) → body-length.Post κs a r x → body-length.Post κs a s x → r ≡ s
one_body_length κs a r s x p q = p.0 ∙ sym q.0
