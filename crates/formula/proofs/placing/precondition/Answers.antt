-- `placing::precondition` meets its contract.
-- Assumes nothing.
use borrow.Author.Rules.{rules}
use Rattle.formula.proofs.ByPlace.{preconditions_wanted, action_few, preconditions_behind, precondition_placed}
use Rattle.formula.proofs.placing.precondition.Goals as goal

pub action_of_precondition-a-requires : goal.action_of_precondition-a-requires
action_of_precondition-a-requires c = search (rules, preconditions_wanted)

pub preconditions_before-requires : goal.preconditions_before-requires
preconditions_before-requires c = search (rules, action_few)

pub overflow_sub-result : goal.overflow_sub-result
overflow_sub-result c = search (rules, preconditions_behind)

pub returns : goal.returns
returns c = search (rules, precondition_placed)
