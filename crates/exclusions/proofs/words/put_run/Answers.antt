-- Assumes nothing.
use Rattle.exclusions.proofs.ByWords.{running_start, running_more}
use borrow.Author.Rules.{rules}
use Rattle.exclusions.proofs.words.put_run.Goals as goal

pub loop-init : goal.loop-init
loop-init c = search (rules, running_start)

pub loop-preserved : goal.loop-preserved
loop-preserved c = search (rules, running_more)
