-- `end_text` meets its contract.
-- Assumes nothing.
use borrow.Author.Rules.{rules}
use Rattle.model.proofs.Ways.{end_refused, end_refused_behind, part_within, part_length, part_fits, end_accepted, end_accepted_behind}
use Rattle.model.proofs.parts.end_text.Goals as goal

pub slice_bounds-entries-end : goal.slice_bounds-entries-end
slice_bounds-entries-end c = search (rules, part_within)

pub slice_bounds-schedule_text-end : goal.slice_bounds-schedule_text-end
slice_bounds-schedule_text-end c = search (rules, part_length)

pub schedule_text-requires : goal.schedule_text-requires
schedule_text-requires c = search (rules, part_fits)

pub returns-in-Err : goal.returns-in-Err
returns-in-Err c = search (rules, end_refused, end_refused_behind)

pub returns-in-Ok : goal.returns-in-Ok
returns-in-Ok c = search (rules, end_accepted, end_accepted_behind)
