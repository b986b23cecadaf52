-- `set_effects` meets its contract.
-- Assumes nothing.
use borrow.Author.Rules.{rules}
use Rattle.walk.proofs.Loops.{effects_set}
use Rattle.walk.proofs.set_effects.Goals as goal

pub returns : goal.returns
returns c = search (rules, effects_set)
