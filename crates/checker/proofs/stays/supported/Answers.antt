-- Assumes nothing.
use Rattle.rules.proofs.Loops.{none_yet}
use Rattle.checker.proofs.StayLaws.{action_there, from_fits, from_positive, from_room, later_fits, next_fits, some_action, support_again, support_end, support_found, support_none}
use borrow.Author.Rules.{rules}
use Rattle.checker.proofs.stays.supported.Goals as goal

pub loop-a-init : goal.loop-a-init
loop-a-init c = search (rules, none_yet)

pub first_action-from-requires : goal.first_action-from-requires
first_action-from-requires c = search (rules, some_action)

pub overflow_add-from : goal.overflow_add-from
overflow_add-from c = search (rules, from_fits)

pub first_set-requires : goal.first_set-requires
first_set-requires c = search (rules, from_positive, from_room)

pub overflow_add-t : goal.overflow_add-t
overflow_add-t c = search (rules, next_fits)

pub returns-then-count-t : goal.returns-then-count-t
returns-then-count-t c = search (rules, support_none)

pub gives-requires : goal.gives-requires
gives-requires c = search (rules, action_there)

pub returns-then-gives : goal.returns-then-gives
returns-then-gives c = search (rules, support_found)

pub overflow_add-a : goal.overflow_add-a
overflow_add-a c = search (rules, later_fits)

pub loop-a-preserved : goal.loop-a-preserved
loop-a-preserved c = search (rules, support_again)

pub returns : goal.returns
returns c = search (rules, support_end)
