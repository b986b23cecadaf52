-- `exclusions::rows::put_ten` meets its contract.
-- Assumes nothing.
use Rattle.exclusions.proofs.Rowing.{ten_fits, ten_least, ten_most, ten_tail, wide_tail, wide_room, wide_written}
use borrow.Author.Rules.{rules}
use Rattle.exclusions.proofs.rows.put_ten.Goals as goal

pub overflow_add-line : goal.overflow_add-line
overflow_add-line c = search (rules, ten_fits)

pub put_run-requires : goal.put_run-requires
put_run-requires c = search (rules, ten_least, ten_most, ten_tail)

pub put_run-requires-then-line-lt-WIDE : goal.put_run-requires-then-line-lt-WIDE
put_run-requires-then-line-lt-WIDE c = search (rules, ten_least, ten_most, ten_tail)

pub put_wide-requires : goal.put_wide-requires
put_wide-requires c = search (rules, wide_tail, wide_room)

pub returns-clause-written : goal.returns-clause-written
returns-clause-written c = search (rules, wide_written)
