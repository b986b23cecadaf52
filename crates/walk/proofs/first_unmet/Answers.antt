-- Assumes nothing.
use borrow.Author.Rules.{rules}
use Rattle.walk.proofs.Loops.{met_all, met_not}
use Rattle.walk.proofs.first_unmet.Goals as goal

pub returns-then-not-pair_holds : goal.returns-then-not-pair_holds
returns-then-not-pair_holds c = search (rules, met_not)

pub returns : goal.returns
returns c = search (rules, met_all)
