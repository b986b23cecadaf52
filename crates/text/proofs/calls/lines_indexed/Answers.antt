-- `calls::lines_indexed` meets its contract.
-- Assumes nothing.
use Rattle.text.proofs.Answered.{number_said, number_left, many_room_said, many_room_left, many_said, many_left}
use borrow.Author.Rules.{rules}
use Rattle.text.proofs.calls.lines_indexed.Goals as goal

pub returns-then-all-c : goal.returns-then-all-c
returns-then-all-c c = (search (rules, number_said), search (rules, number_left))

pub returns-then-run-eq0 : goal.returns-then-run-eq0
returns-then-run-eq0 c = (search (rules, many_room_said), search (rules, many_room_left))

pub returns : goal.returns
returns c = (search (rules, many_said), search (rules, many_left))
