-- `step_clauses` meets its contract.
-- Assumes nothing.
use Rattle.checker.proofs.Widths.{few_variables, few_actions, step_goals, step_variables, step_values, step_preconditions, step_effects, step_stay, step_actions}
use borrow.Author.Rules.{rules}
use Rattle.checker.proofs.sizes.step_clauses.Goals as goal

pub returns-in-StartValues : goal.returns-in-StartValues
returns-in-StartValues c = search (rules, step_variables)

pub returns-in-GoalPairs : goal.returns-in-GoalPairs
returns-in-GoalPairs c = search (rules, step_goals)

pub value_pairs_before-requires : goal.value_pairs_before-requires
value_pairs_before-requires c = search (rules, few_variables)

pub returns-in-TwoValues : goal.returns-in-TwoValues
returns-in-TwoValues c = search (rules, step_values)

pub preconditions_before-requires : goal.preconditions_before-requires
preconditions_before-requires c = search (rules, few_actions)

pub returns-in-Preconditions : goal.returns-in-Preconditions
returns-in-Preconditions c = search (rules, step_preconditions)

pub effects_before-requires : goal.effects_before-requires
effects_before-requires c = search (rules, few_actions)

pub returns-in-Effects : goal.returns-in-Effects
returns-in-Effects c = search (rules, step_effects)

pub returns-in-ValuesStay : goal.returns-in-ValuesStay
returns-in-ValuesStay c = search (rules, step_stay)

pub pairs_below-requires : goal.pairs_below-requires
pairs_below-requires c = search (rules, few_actions)

pub returns-in-TwoActions : goal.returns-in-TwoActions
returns-in-TwoActions c = search (rules, step_actions)
