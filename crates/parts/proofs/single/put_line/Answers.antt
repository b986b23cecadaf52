-- `single::put_line` meets its contract.
-- Assumes nothing.
use Rattle.parts.proofs.OneLine.{place_room, line_of}
use borrow.Author.Rules.{rules}
use Rattle.parts.proofs.single.put_line.Goals as goal

pub put_clause-requires : goal.put_clause-requires
put_clause-requires c = search (rules, place_room)

pub returns-clause-written : goal.returns-clause-written
returns-clause-written c = search (rules, line_of)
