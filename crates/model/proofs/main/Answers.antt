-- `main` is safe and ends.
-- Assumes nothing.
use borrow.Author.Rules.{rules}
use Rattle.model.proofs.Ways.{part_of, part_is}
use Rattle.model.proofs.Prints.{answer_within}
use Rattle.model.proofs.main.Goals as goal

pub slice_bounds-answer-end-2 : goal.slice_bounds-answer-end-2
slice_bounds-answer-end-2 c = part_of _ _ (search rules)

pub slice_bounds-answer-end-3 : goal.slice_bounds-answer-end-3
slice_bounds-answer-end-3 c = part_of _ _ (search rules)

pub answer-end-requires-clause-rows : goal.answer-end-requires-clause-rows
answer-end-requires-clause-rows c = (search (rules, part_is), search (rules, part_is))

pub slice_bounds-out-end : goal.slice_bounds-out-end
slice_bounds-out-end c = search (rules, answer_within)

pub slice_bounds-write_all-end : goal.slice_bounds-write_all-end
slice_bounds-write_all-end c = part_of _ _ (search (rules, answer_within))
