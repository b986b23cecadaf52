-- `placing::place_in` meets its contract.
-- Assumes nothing.
use borrow.Author.Rules.{rules}
use Rattle.formula.proofs.ByPlace.{start_placed, goal_placed, all_values_placed}
use Rattle.formula.proofs.placing.place_in.Goals as goal

pub returns-in-StartValues : goal.returns-in-StartValues
returns-in-StartValues c = search (rules, start_placed)

pub returns-in-GoalPairs : goal.returns-in-GoalPairs
returns-in-GoalPairs c = search (rules, goal_placed)

pub returns-in-AllValues : goal.returns-in-AllValues
returns-in-AllValues c = search (rules, all_values_placed)
