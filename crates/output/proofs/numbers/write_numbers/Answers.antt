-- Assumes nothing.
use borrow.Author.Rules.{rules}
use Rattle.output.proofs.TrialLaws.{writes_start, writes_on, writes_done}
use Rattle.output.proofs.numbers.write_numbers.Goals as goal

pub loop-gap-init : goal.loop-gap-init
loop-gap-init c = search (rules, writes_start)

pub loop-gap-preserved : goal.loop-gap-preserved
loop-gap-preserved c = search (rules, writes_on)

pub returns : goal.returns
returns c = search (rules, writes_done)
