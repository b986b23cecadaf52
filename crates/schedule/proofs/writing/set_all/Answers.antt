-- Assumes nothing.
use borrow.Author.Rules.{rules}
use Rattle.schedule.proofs.WriteLaws.{all_none, all_more, all_done}
use Rattle.schedule.proofs.writing.set_all.Goals as goal

pub loop-i-init : goal.loop-i-init
loop-i-init c = search (rules, all_none)

pub loop-i-preserved : goal.loop-i-preserved
loop-i-preserved c = search (rules, all_more)

pub returns : goal.returns
returns c = search (rules, all_done)
