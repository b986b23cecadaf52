-- Assumes nothing.
use borrow.Author.Rules.{rules}
use Rattle.walk.proofs.Loops.{set_none, set_next}
use Rattle.walk.proofs.set_pairs.Goals as goal

pub loop-i-init : goal.loop-i-init
loop-i-init c = search (rules, set_none)

pub loop-i-preserved : goal.loop-i-preserved
loop-i-preserved c = search (rules, set_next)
