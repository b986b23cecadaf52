-- `feed_part` meets its contract.
-- Assumes nothing.
use borrow.Author.Rules.{rules}
use Rattle.output.proofs.FeedLaws.{then_length, part_refused, part_open, part_ends}
use Rattle.output.proofs.feeding.feed_part.Goals as goal

pub returns-in_default-clause-fed : goal.returns-in_default-clause-fed
returns-in_default-clause-fed c = search (rules, part_refused)

pub slice_bounds-read_line-end-then-ends : goal.slice_bounds-read_line-end-then-ends
slice_bounds-read_line-end-then-ends c = search (rules, then_length)

pub returns-then-ends-clause-fed : goal.returns-then-ends-clause-fed
returns-then-ends-clause-fed c = search (rules, part_ends)

pub returns-clause-fed : goal.returns-clause-fed
returns-clause-fed c = search (rules, part_open)
