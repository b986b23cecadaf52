-- `put_number` meets its contract.
-- Assumes nothing.
use borrow.Author.Rules.{rules}
use Rattle.printing.proofs.Texts.{short_fits, number_ends, high_fits, tens_fit, ones_fit, long_put, long_behind, long_ends}
use Rattle.printing.proofs.put_number.Goals as goal

pub put-requires : goal.put-requires
put-requires c = search (rules, short_fits)

pub returns-then-m-lt-PAST_SHORT : goal.returns-then-m-lt-PAST_SHORT
returns-then-m-lt-PAST_SHORT c = search (rules, number_ends)

pub put-hundreds-requires : goal.put-hundreds-requires
put-hundreds-requires c = search (rules, high_fits)

pub put_byte-tens-requires : goal.put_byte-tens-requires
put_byte-tens-requires c = search (rules, tens_fit)

pub put_byte-requires : goal.put_byte-requires
put_byte-requires c = search (rules, ones_fit)

pub returns-clause-written : goal.returns-clause-written
returns-clause-written c = search (rules, long_put)

pub returns-clause-behind : goal.returns-clause-behind
returns-clause-behind c = search (rules, long_behind)

pub returns-clause-few : goal.returns-clause-few
returns-clause-few c = search (rules, long_ends)
