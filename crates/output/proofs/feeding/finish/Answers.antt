-- `finish` meets its contract.
-- Assumes nothing.
use borrow.Author.Rules.{rules}
use Rattle.output.proofs.FeedLaws.{room_line, least_length, end_short, end_refused, end_empty, end_line_lem}
use Rattle.output.proofs.feeding.finish.Goals as goal

pub returns-then-not-has_room : goal.returns-then-not-has_room
returns-then-not-has_room c = search (rules, end_short)

pub returns-in_default : goal.returns-in_default
returns-in_default c = search (rules, end_refused)

pub returns-then-held-eq0 : goal.returns-then-held-eq0
returns-then-held-eq0 c = search (rules, end_empty)

pub slice_bounds-read_line-end : goal.slice_bounds-read_line-end
slice_bounds-read_line-end c = search (rules, least_length, room_line)

pub returns : goal.returns
returns c = search (rules, end_line_lem)
