-- `clauses::put_start` meets its contract.
-- Assumes nothing.
use borrow.Author.Rules.{rules}
use Rattle.formula.proofs.Spelled.{start_inside, start_room, start_written}
use Rattle.formula.proofs.clauses.put_start.Goals as goal

pub value_at-requires : goal.value_at-requires
value_at-requires c = search (rules, start_inside)

pub put_plus-requires : goal.put_plus-requires
put_plus-requires c = search (rules, start_room)

pub returns : goal.returns
returns c = search (rules, start_written)
