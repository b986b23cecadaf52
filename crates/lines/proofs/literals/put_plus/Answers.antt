-- `literals::put_plus` meets its contract.
-- Assumes nothing.
use Rattle.lines.proofs.Writes.{number_below, plus_room, plus_space, plus_written, plus_within}
use borrow.Author.Rules.{rules}
use Rattle.lines.proofs.literals.put_plus.Goals as goal

pub put-end-requires : goal.put-end-requires
put-end-requires c = search (rules, number_below, plus_room)

pub put_byte-requires : goal.put_byte-requires
put_byte-requires c = search (rules, plus_space)

pub returns-clause-written : goal.returns-clause-written
returns-clause-written c = search (rules, plus_written)

pub returns-clause-within : goal.returns-clause-within
returns-clause-within c = search (rules, plus_within)
