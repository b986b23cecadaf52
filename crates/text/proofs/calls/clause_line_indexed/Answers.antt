-- `calls::clause_line_indexed` meets its contract.
-- Assumes nothing.
use Rattle.text.proofs.Answered.{number_said, number_left, line_room-said, line_room-left, line_said, line_left}
use borrow.Author.Rules.{rules}
use Rattle.text.proofs.calls.clause_line_indexed.Goals as goal

pub returns-then-count_clauses-c : goal.returns-then-count_clauses-c
returns-then-count_clauses-c c = (search (rules, number_said), search (rules, number_left))

pub returns-then-part-eq0 : goal.returns-then-part-eq0
returns-then-part-eq0 c = (search (rules, line_room-said), search (rules, line_room-left))

pub returns : goal.returns
returns c = (search (rules, line_said), search (rules, line_left))
