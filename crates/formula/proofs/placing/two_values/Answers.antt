-- `placing::two_values` meets its contract.
-- Assumes nothing.
use borrow.Author.Rules.{rules}
use Rattle.formula.proofs.ByPlace.{pairs_wanted, variable_few, pairs_behind, domain_few, pair_inside, two_values-placed}
use Rattle.formula.proofs.placing.two_values.Goals as goal

pub variable_of_pair-x-requires : goal.variable_of_pair-x-requires
variable_of_pair-x-requires c = search (rules, pairs_wanted)

pub value_pairs_before-requires : goal.value_pairs_before-requires
value_pairs_before-requires c = search (rules, variable_few)

pub overflow_sub-q : goal.overflow_sub-q
overflow_sub-q c = search (rules, pairs_behind)

pub pair_of-pair-requires : goal.pair_of-pair-requires
pair_of-pair-requires c = search (rules, domain_few, pair_inside)

pub returns : goal.returns
returns c = search (rules, two_values-placed)
