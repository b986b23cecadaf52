-- Assumes nothing.
use Rattle.lines.proofs.Supported.{support_start, support_more, support_end}
use borrow.Author.Rules.{rules}
use Rattle.lines.proofs.stays.put_supporters.Goals as goal

pub loop-a-init : goal.loop-a-init
loop-a-init c = search (rules, support_start)

pub loop-a-preserved : goal.loop-a-preserved
loop-a-preserved c = search (rules, support_more)

pub returns-clause-written : goal.returns-clause-written
returns-clause-written c = search (rules, support_end)
