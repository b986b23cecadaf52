-- `read_action` meets its contract.
-- Assumes nothing.
use borrow.Author.Rules.{rules}
use Rattle.reader.proofs.ReadActions.{counts_cut, pairs_cut, preconditions_wrong, effects_wrong, action_whole}
use Rattle.reader.proofs.actions.read_action.Goals as goal

pub returns-then-rest-lt-COUNT_BYTES : goal.returns-then-rest-lt-COUNT_BYTES
returns-then-rest-lt-COUNT_BYTES c = search (rules, counts_cut)

pub returns-then-rest-bytes : goal.returns-then-rest-bytes
returns-then-rest-bytes c = search (rules, pairs_cut)

pub returns-then-not-list_in_order : goal.returns-then-not-list_in_order
returns-then-not-list_in_order c = search (rules, preconditions_wrong)

pub returns-then-not-list_in_order-2 : goal.returns-then-not-list_in_order-2
returns-then-not-list_in_order-2 c = search (rules, effects_wrong)

pub returns : goal.returns
returns c = search (rules, action_whole)
