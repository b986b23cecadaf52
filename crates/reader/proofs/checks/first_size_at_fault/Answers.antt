-- Assumes nothing.
use borrow.Author.Rules.{rules}
use Rattle.rules.proofs.Loops.{none_yet, none_more, found_at}
use Rattle.reader.proofs.checks.first_size_at_fault.Goals as goal

pub loop-x-init : goal.loop-x-init
loop-x-init c = search (rules, none_yet)

pub returns-then-size_at_fault : goal.returns-then-size_at_fault
returns-then-size_at_fault c = search (rules, found_at)

pub loop-x-preserved : goal.loop-x-preserved
loop-x-preserved c = search (rules, none_more)
