-- `header::put_number` meets its contract.
-- Assumes nothing.
use Rattle.text.proofs.Heading.{number_below, number_room_lem, last_room, number_written, number_within}
use borrow.Author.Rules.{rules}
use Rattle.text.proofs.header.put_number.Goals as goal

pub put-end-requires : goal.put-end-requires
put-end-requires c = search (rules, number_below, number_room_lem)

pub put_byte-requires : goal.put_byte-requires
put_byte-requires c = search (rules, last_room)

pub returns-clause-written : goal.returns-clause-written
returns-clause-written c = search (rules, number_written)

pub returns-clause-within : goal.returns-clause-within
returns-clause-within c = search (rules, number_within)
