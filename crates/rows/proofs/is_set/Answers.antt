-- `is_set` meets its contract: behind the row no bit is set.
-- Assumes nothing.
use borrow.Author.Rules.{rules}
use Rattle.rows.proofs.Bits.{bit_is}
use Rattle.rows.proofs.is_set.Goals as goal

pub returns : goal.returns
returns c = search (rules, bit_is)
