-- `literals::put_minus` meets its contract.
-- Assumes nothing.
use Rattle.lines.proofs.Writes.{number_below, minus_room, minus_space, minus_written, minus_within}
use borrow.Author.Rules.{rules}
use Rattle.lines.proofs.literals.put_minus.Goals as goal

pub put-end-requires : goal.put-end-requires
put-end-requires c = search (rules, number_below, minus_room)

pub put_byte-requires : goal.put_byte-requires
put_byte-requires c = search (rules, minus_space)

pub returns-clause-written : goal.returns-clause-written
returns-clause-written c = search (rules, minus_written)

pub returns-clause-within : goal.returns-clause-within
returns-clause-within c = search (rules, minus_within)
