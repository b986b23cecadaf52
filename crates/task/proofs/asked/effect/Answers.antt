-- `effect` meets its contract.
-- Assumes nothing.
use borrow.Author.Rules.{rules}
use Rattle.task.proofs.Bytes.{first_there, effect_there, effect_variable, effect_value}
use Rattle.task.proofs.asked.effect.Goals as goal

pub byte_behind-requires : goal.byte_behind-requires
byte_behind-requires c = search (rules, first_there)

pub pair_behind-requires : goal.pair_behind-requires
pair_behind-requires c = search (rules, effect_there)

pub returns : goal.returns
returns c = search (rules, effect_variable, effect_value)
