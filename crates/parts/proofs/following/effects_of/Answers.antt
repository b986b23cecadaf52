-- `following::effects_of` meets its contract.
-- Assumes nothing.
use Rattle.parts.proofs.InTurn.{row_fits, row_next, row_here, effect_counts, effect_count}
use borrow.Author.Rules.{rules}
use Rattle.parts.proofs.following.effects_of.Goals as goal

pub overflow_add-a : goal.overflow_add-a
overflow_add-a c = search (rules, row_fits)

pub effects_before-requires : goal.effects_before-requires
effects_before-requires c = search (rules, row_next)

pub effects_before-requires-2 : goal.effects_before-requires-2
effects_before-requires-2 c = search (rules, row_here)

pub overflow_sub-result : goal.overflow_sub-result
overflow_sub-result c = search (rules, effect_counts)

pub returns : goal.returns
returns c = search (rules, effect_count)
