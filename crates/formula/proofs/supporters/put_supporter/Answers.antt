-- `supporters::put_supporter` meets its contract.
-- Assumes nothing.
use borrow.Author.Rules.{rules}
use Rattle.formula.proofs.Supported.{given_room, given_written, given_behind, none_written, none_behind}
use Rattle.formula.proofs.supporters.put_supporter.Goals as goal

pub put_plus-requires : goal.put_plus-requires
put_plus-requires c = search (rules, given_room)

pub returns-then-is_given : goal.returns-then-is_given
returns-then-is_given c = (search (rules, given_written), search (rules, given_behind))

pub returns : goal.returns
returns c = (search (rules, none_written), search (rules, none_behind))
