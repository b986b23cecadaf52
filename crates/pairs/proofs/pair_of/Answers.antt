-- Assumes nothing.
use borrow.Author.Rules.{rules}
use Rattle.pairs.proofs.Halving.{half_sooner}
use Rattle.pairs.proofs.Pair.{pairs_start, pair_found}
use Rattle.pairs.proofs.pair_of.Goals as goal

pub loop-hi-init : goal.loop-hi-init
loop-hi-init c = search (rules, pairs_start)

pub loop-hi-smaller-then-pairs_before-r : goal.loop-hi-smaller-then-pairs_before-r
loop-hi-smaller-then-pairs_before-r c = half_sooner (search rules) (search rules)

pub loop-hi-smaller : goal.loop-hi-smaller
loop-hi-smaller c = half_sooner (search rules) (search rules)

pub returns : goal.returns
returns c = search (rules, pair_found)
