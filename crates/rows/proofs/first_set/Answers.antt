-- Assumes nothing.
use borrow.Author.Rules.{rules}
use Rattle.rows.proofs.StretchLaws.{none_on, first_here, first_nowhere}
use Rattle.rows.proofs.first_set.Goals as goal

pub returns-then-lowest-size : goal.returns-then-lowest-size
returns-then-lowest-size c = search (rules, first_here)

pub loop-done-preserved : goal.loop-done-preserved
loop-done-preserved c = search (rules, none_on)

pub returns : goal.returns
returns c = search (rules, first_nowhere)
