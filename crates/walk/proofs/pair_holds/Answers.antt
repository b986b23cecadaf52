-- `pair_holds` meets its contract.
-- Assumes nothing.
use borrow.Author.Rules.{rules}
use Rattle.walk.proofs.Loops.{holds_is}
use Rattle.walk.proofs.pair_holds.Goals as goal

pub returns : goal.returns
returns c = search (rules, holds_is)
