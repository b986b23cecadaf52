-- `clauses::put_two_values` meets its contract.
-- Assumes nothing.
use borrow.Author.Rules.{rules}
use Rattle.formula.proofs.Spelled.{two_values-room, two_values-written}
use Rattle.formula.proofs.clauses.put_two_values.Goals as goal

pub put_excludes-requires : goal.put_excludes-requires
put_excludes-requires c = search (rules, two_values-room)

pub returns : goal.returns
returns c = search (rules, two_values-written)
