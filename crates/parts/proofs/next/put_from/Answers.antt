-- `next::put_from` meets its contract.
-- Assumes nothing.
use Rattle.parts.proofs.Arms.{arm_room, arm_part}
use borrow.Author.Rules.{rules}
use Rattle.parts.proofs.next.put_from.Goals as goal

pub put_two_values-requires : goal.put_two_values-requires
put_two_values-requires c = search (rules, arm_room)

pub put_preconditions-requires : goal.put_preconditions-requires
put_preconditions-requires c = search (rules, arm_room)

pub put_effects-requires : goal.put_effects-requires
put_effects-requires c = search (rules, arm_room)

pub put_two_actions-requires : goal.put_two_actions-requires
put_two_actions-requires c = search (rules, arm_room)

pub returns-in-TwoValues : goal.returns-in-TwoValues
returns-in-TwoValues c = search (rules, arm_part)

pub returns-in-Precondition : goal.returns-in-Precondition
returns-in-Precondition c = search (rules, arm_part)

pub returns-in-Effect : goal.returns-in-Effect
returns-in-Effect c = search (rules, arm_part)

pub returns-in-TwoActions : goal.returns-in-TwoActions
returns-in-TwoActions c = search (rules, arm_part)
