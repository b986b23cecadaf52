-- `hold` meets its contract.
-- Assumes nothing.
use borrow.Author.Rules.{rules}
use Rattle.output.proofs.FeedLaws.{most_length, hold_fits, hold_line, hold_held}
use Rattle.output.proofs.feeding.hold.Goals as goal

pub slice_bounds-put_text-end : goal.slice_bounds-put_text-end
slice_bounds-put_text-end c = search (rules, most_length)

pub put_text-requires : goal.put_text-requires
put_text-requires c = search (rules, hold_fits)

pub returns-clause-written : goal.returns-clause-written
returns-clause-written c = search (rules, hold_line)

pub returns-clause-behind : goal.returns-clause-behind
returns-clause-behind c = search (rules, hold_held)
