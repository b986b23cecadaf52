-- `placing::two_actions` meets its contract.
-- Assumes nothing.
use borrow.Author.Rules.{rules}
use Rattle.formula.proofs.Counted.{actions_few}
use Rattle.formula.proofs.ByPlace.{actions_inside, two_actions-placed}
use Rattle.formula.proofs.placing.two_actions.Goals as goal

pub pair_of-pair-requires : goal.pair_of-pair-requires
pair_of-pair-requires c = search (rules, actions_few, actions_inside)

pub returns : goal.returns
returns c = search (rules, two_actions-placed)
