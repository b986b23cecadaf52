-- Assumes nothing.
use borrow.Author.Rules.{rules}
use Rattle.printing.proofs.Texts.{lines_none, lines_more, lines_are, lines_behind}
use Rattle.printing.proofs.schedule_text.Goals as goal

pub loop-entry-init : goal.loop-entry-init
loop-entry-init c = search (rules, lines_none)

pub loop-entry-preserved : goal.loop-entry-preserved
loop-entry-preserved c = search (rules, lines_more)

pub returns : goal.returns
returns c = search (rules, lines_are, lines_behind)
