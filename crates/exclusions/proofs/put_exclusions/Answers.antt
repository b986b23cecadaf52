-- Assumes nothing.
use Rattle.exclusions.proofs.ByPair.{pairs_start, pairs_more, pairs_end}
use borrow.Author.Rules.{rules}
use Rattle.exclusions.proofs.put_exclusions.Goals as goal

pub loop-j-init : goal.loop-j-init
loop-j-init c = search (rules, pairs_start)

pub loop-j-preserved : goal.loop-j-preserved
loop-j-preserved c = search (rules, pairs_more)

pub returns-clause-written : goal.returns-clause-written
returns-clause-written c = search (rules, pairs_end)
