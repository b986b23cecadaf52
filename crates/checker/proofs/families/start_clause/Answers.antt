-- `start_clause` meets its contract.
-- Assumes nothing.
use Rattle.checker.proofs.ItemLaws.{start_false, start_fits, start_inside, start_item, start_true}
use borrow.Author.Rules.{rules}
use Rattle.checker.proofs.families.start_clause.Goals as goal

pub start_value-value-requires : goal.start_value-value-requires
start_value-value-requires c = search (rules, start_item)

pub value_holds-requires : goal.value_holds-requires
value_holds-requires c = search (rules, start_item, start_inside)

pub overflow_add-result : goal.overflow_add-result
overflow_add-result c = search (rules, start_fits)

pub returns-then-value_holds : goal.returns-then-value_holds
returns-then-value_holds c = search (rules, start_true)

pub returns : goal.returns
returns c = search (rules, start_false)
