-- `words_needed` meets its contract.
-- Assumes nothing.
use borrow.Author.Rules.{rules}
use Rattle.model.proofs.Ways.{no_words, the_words, words_few}
use Rattle.model.proofs.parts.words_needed.Goals as goal

pub returns-in-Err : goal.returns-in-Err
returns-in-Err c = search (rules, no_words)

pub returns-in-Ok : goal.returns-in-Ok
returns-in-Ok c = search (rules, the_words, words_few)
