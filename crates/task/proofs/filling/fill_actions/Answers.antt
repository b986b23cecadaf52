-- Assumes nothing.
use borrow.Author.Rules.{rules}
use Rattle.task.proofs.Rows.{actions_none, actions_more, actions_all}
use Rattle.task.proofs.filling.fill_actions.Goals as goal

pub loop-a-init : goal.loop-a-init
loop-a-init c = search (rules, actions_none)

pub loop-a-preserved : goal.loop-a-preserved
loop-a-preserved c = search (rules, actions_more)

pub returns : goal.returns
returns c = search (rules, actions_all)
