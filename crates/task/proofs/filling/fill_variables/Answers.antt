-- Assumes nothing.
use borrow.Author.Rules.{rules}
use Rattle.task.proofs.Rows.{variables_none, variables_more, variables_all}
use Rattle.task.proofs.filling.fill_variables.Goals as goal

pub loop-x-init : goal.loop-x-init
loop-x-init c = search (rules, variables_none)

pub loop-x-preserved : goal.loop-x-preserved
loop-x-preserved c = search (rules, variables_more)

pub returns : goal.returns
returns c = search (rules, variables_all)
