-- `exclusions::words::put_words` meets its contract.
-- Assumes nothing.
use Rattle.exclusions.proofs.ByWords.{words_written}
use borrow.Author.Rules.{rules}
use Rattle.exclusions.proofs.words.put_words.Goals as goal

pub returns : goal.returns
returns c = search (rules, words_written)
