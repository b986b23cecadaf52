-- `goal_pair` meets its contract.
-- Assumes nothing.
use borrow.Author.Rules.{rules}
use native.Mathlib.Omega.{arith}
use Rattle.task.proofs.Bytes.{contents_long, goal_there, goal_variable, goal_value}
use Rattle.task.proofs.asked.goal_pair.Goals as goal

pub body_start-requires : goal.body_start-requires
body_start-requires c = omega (arith, contents_long)

pub pair_behind-requires : goal.pair_behind-requires
pair_behind-requires c = search (rules, goal_there)

pub returns : goal.returns
returns c = search (rules, goal_variable, goal_value)
