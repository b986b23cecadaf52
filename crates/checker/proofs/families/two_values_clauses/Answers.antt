-- `two_values_clauses` meets its contract.
-- Assumes nothing.
use Rattle.checker.proofs.Widths.{few_values}
use Rattle.checker.proofs.ItemLaws.{step_low, two_fits, two_item, two_lowest, value_from_lem, values_room}
use borrow.Author.Rules.{rules}
use Rattle.checker.proofs.families.two_values_clauses.Goals as goal

pub first_value-from-requires : goal.first_value-from-requires
first_value-from-requires c = search (rules, step_low, two_item)

pub size-requires : goal.size-requires
size-requires c = search (rules, two_item)

pub first_pair-requires : goal.first_pair-requires
first_pair-requires c = search (rules, value_from_lem, values_room, step_low, two_item, few_values)

pub overflow_add-result : goal.overflow_add-result
overflow_add-result c = search (rules, two_fits)

pub returns : goal.returns
returns c = search (rules, two_lowest)
