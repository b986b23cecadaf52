-- `action_part` meets its contract.
-- Assumes nothing.
use borrow.Author.Rules.{rules}
use Rattle.task.proofs.Asking.{action_few}
use Rattle.schedule.proofs.WalkLaws.{place_within, part_is}
use Rattle.schedule.proofs.walking.action_part.Goals as goal

pub action_place-place-requires : goal.action_place-place-requires
action_place-place-requires c = search (rules, action_few)

pub slice_bounds-result-count : goal.slice_bounds-result-count
slice_bounds-result-count c = search (rules, place_within)

pub slice_bounds-result-start : goal.slice_bounds-result-start
slice_bounds-result-start c = search (rules, place_within)

pub returns : goal.returns
returns c = search (rules, part_is)
