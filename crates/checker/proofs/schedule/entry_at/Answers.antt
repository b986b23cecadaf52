-- `entry_at` meets its contract.
-- Assumes nothing.
use Rattle.checker.proofs.ItemLaws.{action_from, actions_room_lem, actions_word}
use Rattle.checker.proofs.ScheduleLaws.{entry_idle, entry_none, entry_small, entry_some}
use borrow.Author.Rules.{rules}
use Rattle.checker.proofs.schedule.entry_at.Goals as goal

pub returns-then-count-eq0 : goal.returns-then-count-eq0
returns-then-count-eq0 c = search (rules, entry_idle)

pub count_set-requires : goal.count_set-requires
count_set-requires c = search (rules, action_from, actions_word)

pub returns-then-count_set-eq0 : goal.returns-then-count_set-eq0
returns-then-count_set-eq0 c = search (rules, entry_none)

pub first_of_some-t-requires : goal.first_of_some-t-requires
first_of_some-t-requires c = search (rules, action_from, actions_room_lem)

pub overflow_cast-result : goal.overflow_cast-result
overflow_cast-result c = search (rules, entry_small)

pub returns : goal.returns
returns c = search (rules, entry_some)
