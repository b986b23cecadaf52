-- Assumes nothing.
use borrow.Author.Rules.{rules}
use Rattle.rows.proofs.StretchLaws.{count_none, count_on}
use Rattle.rows.proofs.count_set.Goals as goal

pub loop-done-init : goal.loop-done-init
loop-done-init c = search (rules, count_none)

pub loop-done-preserved : goal.loop-done-preserved
loop-done-preserved c = search (rules, count_on)
