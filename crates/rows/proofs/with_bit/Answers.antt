-- `with_bit` meets its contract.
-- Assumes nothing.
use borrow.Author.Rules.{rules}
use Rattle.rows.proofs.Bits.{worth_in, set_is, clear_is}
use Rattle.rows.proofs.with_bit.Goals as goal

pub returns-then-on : goal.returns-then-on
returns-then-on c = search (rules, set_is)

pub overflow_sub-result : goal.overflow_sub-result
overflow_sub-result c = search (rules, worth_in)

pub returns : goal.returns
returns c = search (rules, clear_is)
