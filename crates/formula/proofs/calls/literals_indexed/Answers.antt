-- `calls::literals_indexed` meets its contract.
-- Assumes nothing.
use borrow.Author.Rules.{rules}
use Rattle.formula.proofs.Answered.{in_range, number_said, number_left, room_said, room_as_found, enough_room, count_said, clause_left}
use Rattle.formula.proofs.calls.literals_indexed.Goals as goal

pub returns-then-count_clauses-c : goal.returns-then-count_clauses-c
returns-then-count_clauses-c c = (search (rules, number_said), search (rules, number_left))

pub literal_count-count-requires : goal.literal_count-count-requires
literal_count-count-requires c = search (rules, in_range)

pub returns-then-out-count : goal.returns-then-out-count
returns-then-out-count c = (search (rules, room_said), search (rules, room_as_found))

pub put_clause-requires : goal.put_clause-requires
put_clause-requires c = record { inside = search (rules, in_range); enough = search (rules, enough_room) }

pub returns : goal.returns
returns c = (search (rules, count_said), search (rules, clause_left))
