-- `first_byte` meets its contract.
-- Assumes nothing.
use borrow.Author.Rules.{rules}
use Rattle.task.proofs.Asking.{action_few}
use Rattle.task.proofs.asked.first_byte.Goals as goal

pub action_place-requires : goal.action_place-requires
action_place-requires c = search (rules, action_few)
