-- `clauses::put_goal` meets its contract.
-- Assumes nothing.
use Rattle.formula.proofs.Spelled.{goal_variable, goal_value}
use Rattle.lines.proofs.ByPlace.{goal_line}
use borrow.Author.Rules.{rules}
use Rattle.lines.proofs.clauses.put_goal.Goals as goal

pub pair_at-requires : goal.pair_at-requires
pair_at-requires c = search (rules, goal_variable, goal_value)

pub returns-clause-written : goal.returns-clause-written
returns-clause-written c = search (rules, goal_line)
