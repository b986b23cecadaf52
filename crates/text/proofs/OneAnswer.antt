-- Any two answers that a promise allows are equal, lent room after the call included.
-- Assumes nothing.
use mathlib.Core.Path.{◌≡◌, sym, ◌∙◌}
use Rattle.text.proofs.calls.header.Reads as header
use Rattle.text.proofs.calls.header_indexed.Reads as header-indexed
use Rattle.text.proofs.calls.clause_line.Reads as clause-line
use Rattle.text.proofs.calls.clause_line_indexed.Reads as clause-line-indexed
use Rattle.text.proofs.calls.lines.Reads as lines
use Rattle.text.proofs.calls.lines_indexed.Reads as lines-indexed
use Rattle.text.specs.Said.{TextAnswer}

pub one_header : (κs : _) (a : _) (r s : TextAnswer) (x y : _) → header.Post κs a r x → header.Post κs a s y → r ≡ s
one_header κs a r s x y p q = p.0 ∙ sym q.0

pub one_header_left : (κs : _) (a : _) (r s : TextAnswer) (x y : _) → header.Post κs a r x → header.Post κs a s y → x.1.1.0.now ≡ y.1.1.0.now
one_header_left κs a r s x y p q = p.1 ∙ sym q.1

pub one_clause_line : (κs : _) (a : _) (r s : TextAnswer) (x y : _) → clause-line.Post κs a r x → clause-line.Post κs a s y → r ≡ s
one_clause_line κs a r s x y p q = p.0 ∙ sym q.0

pub one_clause_line_left : (κs : _) (a : _) (r s : TextAnswer) (x y : _) → clause-line.Post κs a r x → clause-line.Post κs a s y
    → x.1.1.1.0.now ≡ y.1.1.1.0.now
one_clause_line_left κs a r s x y p q = p.1 ∙ sym q.1

pub one_lines : (κs : _) (a : _) (r s : TextAnswer) (x y : _) → lines.Post κs a r x → lines.Post κs a s y → r ≡ s
one_lines κs a r s x y p q = p.0 ∙ sym q.0

pub one_lines_left : (κs : _) (a : _) (r s : TextAnswer) (x y : _) → lines.Post κs a r x → lines.Post κs a s y
    → x.1.1.1.0.now ≡ y.1.1.1.0.now
one_lines_left κs a r s x y p q = p.1 ∙ sym q.1

-- ---- for an accepted file with its index

pub one_header_indexed : (κs : _) (a : _) (r s : TextAnswer) (x y : _) → header-indexed.Post κs a r x → header-indexed.Post κs a s y → r ≡ s
one_header_indexed κs a r s x y p q = p.0 ∙ sym q.0

pub one_header_indexed_left : (κs : _) (a : _) (r s : TextAnswer) (x y : _) → header-indexed.Post κs a r x → header-indexed.Post κs a s y
    → x.1.0.now ≡ y.1.0.now
one_header_indexed_left κs a r s x y p q = p.1 ∙ sym q.1

pub one_clause_line_indexed : (κs : _) (a : _) (r s : TextAnswer) (x y : _) → clause-line-indexed.Post κs a r x → clause-line-indexed.Post κs a s y → r ≡ s
one_clause_line_indexed κs a r s x y p q = p.0 ∙ sym q.0

pub one_clause_line_indexed_left : (κs : _) (a : _) (r s : TextAnswer) (x y : _) → clause-line-indexed.Post κs a r x → clause-line-indexed.Post κs a s y
    → x.1.1.0.now ≡ y.1.1.0.now
one_clause_line_indexed_left κs a r s x y p q = p.1 ∙ sym q.1

pub one_lines_indexed : (κs : _) (a : _) (r s : TextAnswer) (x y : _) → lines-indexed.Post κs a r x → lines-indexed.Post κs a s y → r ≡ s
one_lines_indexed κs a r s x y p q = p.0 ∙ sym q.0

pub one_lines_indexed_left : (κs : _) (a : _) (r s : TextAnswer) (x y : _) → lines-indexed.Post κs a r x → lines-indexed.Post κs a s y
    → x.1.1.0.now ≡ y.1.1.0.now
one_lines_indexed_left κs a r s x y p q = p.1 ∙ sym q.1
