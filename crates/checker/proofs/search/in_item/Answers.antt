-- `in_item` meets its contract.
-- Assumes nothing.
use Rattle.checker.proofs.Moving.{answer_actions, answer_same, come_actions, come_goal, come_same, come_start}
use borrow.Author.Rules.{rules}
use Rattle.checker.proofs.search.in_item.Goals as goal

pub start_clause-requires : goal.start_clause-requires
start_clause-requires c = search (rules, come_start)

pub returns-in-StartValues : goal.returns-in-StartValues
returns-in-StartValues c = search (rules, answer_same)

pub goal_clause-requires : goal.goal_clause-requires
goal_clause-requires c = search (rules, come_goal)

pub returns-in-GoalPairs : goal.returns-in-GoalPairs
returns-in-GoalPairs c = search (rules, answer_same)

pub some_value_clause-requires : goal.some_value_clause-requires
some_value_clause-requires c = search (rules, come_same)

pub returns-in-AllValues : goal.returns-in-AllValues
returns-in-AllValues c = search (rules, answer_same)

pub two_values_clauses-requires : goal.two_values_clauses-requires
two_values_clauses-requires c = search (rules, come_same)

pub returns-in-TwoValues : goal.returns-in-TwoValues
returns-in-TwoValues c = search (rules, answer_same)

pub precondition_clauses-requires : goal.precondition_clauses-requires
precondition_clauses-requires c = search (rules, come_same)

pub returns-in-Preconditions : goal.returns-in-Preconditions
returns-in-Preconditions c = search (rules, answer_same)

pub effect_clauses-requires : goal.effect_clauses-requires
effect_clauses-requires c = search (rules, come_same)

pub returns-in-Effects : goal.returns-in-Effects
returns-in-Effects c = search (rules, answer_same)

pub stay_clauses-requires : goal.stay_clauses-requires
stay_clauses-requires c = search (rules, come_same)

pub returns-in-ValuesStay : goal.returns-in-ValuesStay
returns-in-ValuesStay c = search (rules, answer_same)

pub two_actions_clauses-requires : goal.two_actions_clauses-requires
two_actions_clauses-requires c = search (rules, come_actions)

pub returns-in-TwoActions : goal.returns-in-TwoActions
returns-in-TwoActions c = search (rules, answer_actions)
