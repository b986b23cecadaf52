-- `placing::effect` meets its contract.
-- Assumes nothing.
use borrow.Author.Rules.{rules}
use Rattle.formula.proofs.ByPlace.{effects_wanted, action_few, effects_behind, effect_placed}
use Rattle.formula.proofs.placing.effect.Goals as goal

pub action_of_effect-a-requires : goal.action_of_effect-a-requires
action_of_effect-a-requires c = search (rules, effects_wanted)

pub effects_before-requires : goal.effects_before-requires
effects_before-requires c = search (rules, action_few)

pub overflow_sub-result : goal.overflow_sub-result
overflow_sub-result c = search (rules, effects_behind)

pub returns : goal.returns
returns c = search (rules, effect_placed)
