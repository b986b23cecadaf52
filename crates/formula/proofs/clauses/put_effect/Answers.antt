-- `clauses::put_effect` meets its contract.
-- Assumes nothing.
use borrow.Author.Rules.{rules}
use Rattle.formula.proofs.Spelled.{effect_variable, effect_value, effect_room, effect_written}
use Rattle.formula.proofs.clauses.put_effect.Goals as goal

pub pair_at-second-requires : goal.pair_at-second-requires
pair_at-second-requires c = search (rules, effect_variable, effect_value)

pub put_implies-requires : goal.put_implies-requires
put_implies-requires c = search (rules, effect_room)

pub returns : goal.returns
returns c = search (rules, effect_written)
