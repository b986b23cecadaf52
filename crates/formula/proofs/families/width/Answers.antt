-- `families::width` meets its contract.
-- Assumes nothing.
use borrow.Author.Rules.{rules}
use Rattle.formula.proofs.Counted.{variables_few, actions_few}
use Rattle.formula.proofs.families.width.Goals as goal

pub value_pairs_before-requires : goal.value_pairs_before-requires
value_pairs_before-requires c = search (rules, variables_few)

pub preconditions_before-requires : goal.preconditions_before-requires
preconditions_before-requires c = search (rules, actions_few)

pub effects_before-requires : goal.effects_before-requires
effects_before-requires c = search (rules, actions_few)

pub pairs_below-requires : goal.pairs_below-requires
pairs_below-requires c = search (rules, actions_few)
