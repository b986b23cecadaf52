-- `refusal_line` meets its contract.
-- Assumes nothing.
use borrow.Author.Rules.{rules}
use Rattle.printing.proofs.Texts.{word_length, refusal_put, refusal_behind}
use Rattle.printing.proofs.refusal_line.Goals as goal

pub put_refused-number-requires : goal.put_refused-number-requires
put_refused-number-requires c = search (rules, word_length)

pub put_ended-detail-requires : goal.put_ended-detail-requires
put_ended-detail-requires c = search (rules, word_length)

pub put_ended-requires : goal.put_ended-requires
put_ended-requires c = search (rules, word_length)

pub returns-clause-written : goal.returns-clause-written
returns-clause-written c = search (rules, refusal_put)

pub returns-clause-behind : goal.returns-clause-behind
returns-clause-behind c = search (rules, refusal_behind)
