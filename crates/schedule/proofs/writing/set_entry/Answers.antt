-- `set_entry` meets its contract.
-- Assumes nothing.
use borrow.Author.Rules.{rules}
use Rattle.schedule.proofs.WriteLaws.{action_positive, entry_written}
use Rattle.schedule.proofs.writing.set_entry.Goals as goal

pub set_bit-requires : goal.set_bit-requires
set_bit-requires c = search (rules, action_positive)

pub returns : goal.returns
returns c = search (rules, entry_written)
