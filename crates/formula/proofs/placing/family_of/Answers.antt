-- Assumes nothing.
use borrow.Author.Rules.{rules}
use Rattle.formula.proofs.ByPlace.{ranked_first, ranked_next, ranked_last}
use Rattle.formula.proofs.placing.family_of.Goals as goal

pub loop-family-init : goal.loop-family-init
loop-family-init c = search (rules, ranked_first)

pub loop-family-preserved : goal.loop-family-preserved
loop-family-preserved c = search (rules, ranked_next)

pub unreachable-requires : goal.unreachable-requires
unreachable-requires c = ranked_last _ _ _ _ _ c.loop-family.invariant c.loop-family.auto.family-index-end c.loop-family-test.false
