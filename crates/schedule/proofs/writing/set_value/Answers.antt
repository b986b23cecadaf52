-- `set_value` meets its contract.
-- Assumes nothing.
use borrow.Author.Rules.{rules}
use Rattle.schedule.proofs.WriteLaws.{value_below, value_positive, value_set}
use Rattle.schedule.proofs.writing.set_value.Goals as goal

pub value_number-number-requires : goal.value_number-number-requires
value_number-number-requires c = search (rules, value_below)

pub set_bit-requires : goal.set_bit-requires
set_bit-requires c = search (rules, value_positive)

pub returns : goal.returns
returns c = search (rules, value_set)
