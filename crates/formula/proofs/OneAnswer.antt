-- Any two answers that a promise allows are equal, lent memory after the call included. Not proved so is `place_of`: it promises a place in
-- range whose number is c and at which clause c stands, but that no two places have one number is not proved.
-- Assumes nothing.
use mathlib.Core.Path.{◌≡◌, sym, ◌∙◌}
use Prim.Native.Nat.{ℕ}
use Rattle.formula.proofs.families.width.Reads as width
use Rattle.formula.proofs.families.count_of.Reads as count_of
use Rattle.formula.proofs.families.count_clauses.Reads as count-clauses
use Rattle.formula.proofs.clauses.literal_count.Reads as literal-count
use Rattle.formula.proofs.clauses.put_clause.Reads as put-clause
use Rattle.formula.proofs.calls.counts.Reads as counts
use Rattle.formula.proofs.calls.literals.Reads as literals
use Rattle.formula.proofs.calls.literals_indexed.Reads as literals-indexed
use Rattle.formula.specs.Said.{CountsAnswer, LiteralsAnswer}

-- ---- the calls

pub one_counts : (κs : _) (a : _) (r s : CountsAnswer) (x : _) → counts.Post κs a r x → counts.Post κs a s x → r ≡ s
one_counts κs a r s x p q = p ∙ sym q

pub one_literals : (κs : _) (a : _) (r s : LiteralsAnswer) (x y : _) → literals.Post κs a r x → literals.Post κs a s y → r ≡ s
one_literals κs a r s x y p q = p.0 ∙ sym q.0

pub one_literals_left : (κs : _) (a : _) (r s : LiteralsAnswer) (x y : _) → literals.Post κs a r x → literals.Post κs a s y
    → x.1.1.1.0.now ≡ y.1.1.1.0.now
one_literals_left κs a r s x y p q = p.1 ∙ sym q.1

pub one_literals_indexed : (κs : _) (a : _) (r s : LiteralsAnswer) (x y : _) → literals-indexed.Post κs a r x → literals-indexed.Post κs a s y → r ≡ s
one_literals_indexed κs a r s x y p q = p.0 ∙ sym q.0

pub one_literals_indexed_left : (κs : _) (a : _) (r s : LiteralsAnswer) (x y : _) → literals-indexed.Post κs a r x → literals-indexed.Post κs a s y
    → x.1.1.0.now ≡ y.1.1.0.now
one_literals_indexed_left κs a r s x y p q = p.1 ∙ sym q.1

-- ---- for an accepted file with its index

pub one_width : (κs : _) (a : _) (r s : ℕ) (x : _) → width.Post κs a r x → width.Post κs a s x → r ≡ s
one_width κs a r s x p q = p ∙ sym q

pub one_count_of : (κs : _) (a : _) (r s : ℕ) (x : _) → count_of.Post κs a r x → count_of.Post κs a s x → r ≡ s
one_count_of κs a r s x p q = p ∙ sym q

pub one_count_clauses : (κs : _) (a : _) (r s : ℕ) (x : _) → count-clauses.Post κs a r x → count-clauses.Post κs a s x → r ≡ s
one_count_clauses κs a r s x p q = p ∙ sym q

pub one_literal_count : (κs : _) (a : _) (r s : ℕ) (x : _) → literal-count.Post κs a r x → literal-count.Post κs a s x → r ≡ s
one_literal_count κs a r s x p q = p ∙ sym q

pub one_put_clause : (κs : _) (a : _) (r s : _) (x y : _) → put-clause.Post κs a r x → put-clause.Post κs a s y → x.1.1.0.now ≡ y.1.1.0.now
one_put_clause κs a r s x y p q = p ∙ sym q
