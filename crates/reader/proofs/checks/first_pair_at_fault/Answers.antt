-- Assumes nothing.
use borrow.Author.Rules.{rules}
use Rattle.rules.proofs.Loops.{none_yet, none_more, found_at}
use Rattle.reader.proofs.ReadChecks.{fault_among}
use Rattle.reader.proofs.checks.first_pair_at_fault.Goals as goal

pub loop-i-init : goal.loop-i-init
loop-i-init c = search (rules, none_yet)

pub returns-then-pair_at_fault : goal.returns-then-pair_at_fault
returns-then-pair_at_fault c = search (rules, found_at, fault_among)

pub loop-i-preserved : goal.loop-i-preserved
loop-i-preserved c = search (rules, none_more, fault_among)
