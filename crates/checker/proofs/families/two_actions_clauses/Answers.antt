-- `two_actions_clauses` meets its contract.
-- Assumes nothing.
use Rattle.checker.proofs.Widths.{few_actions}
use Rattle.checker.proofs.ItemLaws.{action_from, actions_fits, actions_lowest, actions_room_lem, no_actions, some_actions, step_low}
use borrow.Author.Rules.{rules}
use Rattle.checker.proofs.families.two_actions_clauses.Goals as goal

pub returns-then-count-eq0 : goal.returns-then-count-eq0
returns-then-count-eq0 c = search (rules, no_actions)

pub first_action-requires : goal.first_action-requires
first_action-requires c = search (rules, step_low, some_actions)

pub first_pair-requires : goal.first_pair-requires
first_pair-requires c = search (rules, action_from, actions_room_lem, step_low, few_actions)

pub overflow_add-result : goal.overflow_add-result
overflow_add-result c = search (rules, actions_fits)

pub returns : goal.returns
returns c = search (rules, actions_lowest)
