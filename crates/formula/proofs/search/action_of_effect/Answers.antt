-- `search::action_of_effect` meets its contract.
-- Assumes nothing.
use borrow.Author.Rules.{rules}
use Rattle.formula.proofs.Finding.{effects_span, effect_part}
use Rattle.formula.proofs.search.action_of_effect.Goals as goal

pub row_of-requires : goal.row_of-requires
row_of-requires c = search (rules, effects_span)

pub returns : goal.returns
returns c = search (rules, effect_part)
