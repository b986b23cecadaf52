-- `goal_clause` meets its contract.
-- Assumes nothing.
use Rattle.checker.proofs.ItemLaws.{goal_false, goal_fits, goal_item, goal_true, goal_value, goal_variable}
use borrow.Author.Rules.{rules}
use Rattle.checker.proofs.families.goal_clause.Goals as goal

pub goal_pair-pair-requires : goal.goal_pair-pair-requires
goal_pair-pair-requires c = search (rules, goal_item)

pub pair_holds-requires : goal.pair_holds-requires
pair_holds-requires c = search (rules, goal_variable, goal_value)

pub overflow_add-result : goal.overflow_add-result
overflow_add-result c = search (rules, goal_fits)

pub returns-then-pair_holds : goal.returns-then-pair_holds
returns-then-pair_holds c = search (rules, goal_true)

pub returns : goal.returns
returns c = search (rules, goal_false)
