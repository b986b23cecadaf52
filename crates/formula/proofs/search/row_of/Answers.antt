-- Assumes nothing.
use borrow.Author.Rules.{rules}
use Rattle.pairs.proofs.Halving.{half_sooner}
use Rattle.formula.proofs.search.row_of.Goals as goal

pub loop-hi-smaller-then-number_at-q : goal.loop-hi-smaller-then-number_at-q
loop-hi-smaller-then-number_at-q c = half_sooner (search rules) (search rules)

pub loop-hi-smaller : goal.loop-hi-smaller
loop-hi-smaller c = half_sooner (search rules) (search rules)
