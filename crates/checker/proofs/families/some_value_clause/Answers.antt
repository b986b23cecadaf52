-- `some_value_clause` meets its contract.
-- Assumes nothing.
use Rattle.checker.proofs.ItemLaws.{some_fits, some_found, some_item, some_missing, step_low, value_from_lem, values_room}
use borrow.Author.Rules.{rules}
use Rattle.checker.proofs.families.some_value_clause.Goals as goal

pub size-values-requires : goal.size-values-requires
size-values-requires c = search (rules, some_item)

pub first_value-from-requires : goal.first_value-from-requires
first_value-from-requires c = search (rules, step_low, some_item)

pub first_set-requires : goal.first_set-requires
first_set-requires c = search (rules, value_from_lem, values_room, step_low, some_item)

pub overflow_add-result : goal.overflow_add-result
overflow_add-result c = search (rules, some_fits)

pub returns-then-first_set-values : goal.returns-then-first_set-values
returns-then-first_set-values c = search (rules, some_found)

pub returns : goal.returns
returns c = search (rules, some_missing)
