-- Assumes nothing.
use borrow.Author.Rules.{rules}
use Rattle.model.proofs.Prints.{some_none, some_more}
use Rattle.model.proofs.take_parts.Goals as goal

pub loop-init : goal.loop-init
loop-init c = search (rules, some_none)

pub loop-preserved : goal.loop-preserved
loop-preserved c = (search (rules, some_more), search rules, search rules, search rules, search rules)
