-- `clauses::put_goal` meets its contract.
-- Assumes nothing.
use borrow.Author.Rules.{rules}
use Rattle.formula.proofs.Spelled.{goal_variable, goal_value, goal_room_lem, goal_written}
use Rattle.formula.proofs.clauses.put_goal.Goals as goal

pub pair_at-requires : goal.pair_at-requires
pair_at-requires c = search (rules, goal_variable, goal_value)

pub put_plus-requires : goal.put_plus-requires
put_plus-requires c = search (rules, goal_room_lem)

pub returns : goal.returns
returns c = search (rules, goal_written)
