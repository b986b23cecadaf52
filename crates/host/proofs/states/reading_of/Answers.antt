-- `reading_of` meets its contract.
-- Assumes nothing.
use borrow.Author.Rules.{rules}
use Rattle.host.proofs.Crossing.{reading_is}
use Rattle.host.proofs.states.reading_of.Goals as goal

pub returns : goal.returns
returns c = search (rules, reading_is)
