-- `read_line` meets its contract: each answer by the rule that decides it, in their order.
-- Assumes nothing.
use borrow.Author.Rules.{rules}
use Rattle.output.proofs.LineLaws.{given_fits, line_room_lem, line_long, line_comment, line_status, kind_numbers, line_numbers, line_neither}
use Rattle.output.proofs.read_line.Goals as goal

pub returns-then-not-rows_fit : goal.returns-then-not-rows_fit
returns-then-not-rows_fit c = search (rules, line_room_lem)

pub returns-then-line-gt-MAX_LINE : goal.returns-then-line-gt-MAX_LINE
returns-then-line-gt-MAX_LINE c = search (rules, line_long)

pub returns-then-first-eq99 : goal.returns-then-first-eq99
returns-then-first-eq99 c = search (rules, line_comment)

pub returns-then-first-eq115 : goal.returns-then-first-eq115
returns-then-first-eq115 c = search (rules, line_status)

pub numbers_line-requires : goal.numbers_line-requires
numbers_line-requires c = search (rules, given_fits, kind_numbers)

pub returns-then-first-eq118 : goal.returns-then-first-eq118
returns-then-first-eq118 c = search (rules, line_numbers)

pub returns : goal.returns
returns c = search (rules, line_neither)
