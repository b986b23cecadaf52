-- Assumes nothing.
use borrow.Author.Rules.{rules}
use Rattle.output.proofs.TrialLaws.{tried_start, tried_stopped, tried_on, tried_through}
use Rattle.output.proofs.numbers.try_numbers.Goals as goal

pub loop-gap-init : goal.loop-gap-init
loop-gap-init c = search (rules, tried_start)

pub returns-in-Err : goal.returns-in-Err
returns-in-Err c = search (rules, tried_stopped)

pub loop-gap-preserved : goal.loop-gap-preserved
loop-gap-preserved c = search (rules, tried_on)

pub returns : goal.returns
returns c = search (rules, tried_through)
