-- `put_refused` meets its contract.
-- Assumes nothing.
use borrow.Author.Rules.{rules}
use Rattle.printing.proofs.Texts.{word_length, word_put}
use Rattle.printing.proofs.put_refused.Goals as goal

pub put_text-requires : goal.put_text-requires
put_text-requires c = search (rules, word_length)

pub returns : goal.returns
returns c = search (rules, word_length, word_put)
