-- `clauses::put_two_actions` meets its contract.
-- Assumes nothing.
use borrow.Author.Rules.{rules}
use Rattle.formula.proofs.Spelled.{two_actions-room, two_actions-written}
use Rattle.formula.proofs.clauses.put_two_actions.Goals as goal

pub put_excludes-requires : goal.put_excludes-requires
put_excludes-requires c = search (rules, two_actions-room)

pub returns : goal.returns
returns c = search (rules, two_actions-written)
