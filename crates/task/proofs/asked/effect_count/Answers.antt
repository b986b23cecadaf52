-- `effect_count` meets its contract.
-- Assumes nothing.
use borrow.Author.Rules.{rules}
use Rattle.task.proofs.Bytes.{counts_there, effects_asked}
use Rattle.task.proofs.asked.effect_count.Goals as goal

pub byte_behind-requires : goal.byte_behind-requires
byte_behind-requires c = search (rules, counts_there)

pub returns : goal.returns
returns c = search (rules, effects_asked)
