-- `start` meets its contract.
-- Assumes nothing.
use borrow.Author.Rules.{rules}
use Rattle.output.proofs.LineLaws.{clear_given, clear_true, start_room, start_clears}
use Rattle.output.proofs.start.Goals as goal

pub returns-then-not-rows_fit : goal.returns-then-not-rows_fit
returns-then-not-rows_fit c = search (rules, start_room)

pub clear-requires : goal.clear-requires
clear-requires c = search (rules, clear_given)

pub clear-requires-2 : goal.clear-requires-2
clear-requires-2 c = search (rules, clear_true)

pub returns : goal.returns
returns c = search (rules, start_clears)
