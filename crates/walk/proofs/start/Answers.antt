-- Assumes nothing.
use borrow.Author.Rules.{rules}
use Rattle.walk.proofs.Loops.{filled_next, start_filled}
use Rattle.walk.proofs.start.Goals as goal

pub loop-x-preserved : goal.loop-x-preserved
loop-x-preserved c = search (rules, filled_next)

pub returns : goal.returns
returns c = search (rules, start_filled)
