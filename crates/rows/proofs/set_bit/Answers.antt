-- `set_bit` meets its contract: what is written is the word with the bit.
-- Assumes nothing.
use borrow.Author.Rules.{rules}
use Rattle.rows.proofs.Bits.{with_in, with_behind}
use Rattle.rows.proofs.set_bit.Goals as goal

pub returns-then-at-row : goal.returns-then-at-row
returns-then-at-row c = search (rules, with_in)

pub returns-else-at-row : goal.returns-else-at-row
returns-else-at-row c = search (rules, with_behind)
