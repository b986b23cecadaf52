-- `clauses::literal_count` meets its contract.
-- Assumes nothing.
use borrow.Author.Rules.{rules}
use Rattle.formula.proofs.Spelled.{variable_counted, supporters_fit, start_count, goal_count, values_count, stays_count, two_values-count, precondition_count, effect_count, two_actions-count}
use Rattle.formula.proofs.clauses.literal_count.Goals as goal

pub size-requires : goal.size-requires
size-requires c = search (rules, variable_counted)

pub overflow_add-result : goal.overflow_add-result
overflow_add-result c = search (rules, supporters_fit)

pub returns-in-Start : goal.returns-in-Start
returns-in-Start c = search (rules, start_count)

pub returns-in-Goal : goal.returns-in-Goal
returns-in-Goal c = search (rules, goal_count)

pub returns-in-AllValues : goal.returns-in-AllValues
returns-in-AllValues c = search (rules, values_count)

pub returns-in-Stays : goal.returns-in-Stays
returns-in-Stays c = search (rules, stays_count)

pub returns-in-TwoValues : goal.returns-in-TwoValues
returns-in-TwoValues c = search (rules, two_values-count)

pub returns-in-Precondition : goal.returns-in-Precondition
returns-in-Precondition c = search (rules, precondition_count)

pub returns-in-Effect : goal.returns-in-Effect
returns-in-Effect c = search (rules, effect_count)

pub returns-in-TwoActions : goal.returns-in-TwoActions
returns-in-TwoActions c = search (rules, two_actions-count)
