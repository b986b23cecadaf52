-- Assumes nothing.
use Rattle.exclusions.proofs.Rowing.{row_start, row_line}
use borrow.Author.Rules.{rules}
use Rattle.exclusions.proofs.exact.put_row.Goals as goal

pub loop-i-init : goal.loop-i-init
loop-i-init c = search (rules, row_start)

pub loop-i-preserved : goal.loop-i-preserved
loop-i-preserved c = search (rules, row_line)
