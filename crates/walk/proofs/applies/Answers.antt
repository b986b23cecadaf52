-- `applies` meets its contract.
-- Assumes nothing.
use borrow.Author.Rules.{rules}
use Rattle.walk.proofs.Loops.{preconditions_hold_lem}
use Rattle.walk.proofs.applies.Goals as goal

pub returns : goal.returns
returns c = search (rules, preconditions_hold_lem)
