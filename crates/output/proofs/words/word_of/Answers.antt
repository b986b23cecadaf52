-- `word_of` meets its contract.
-- Assumes nothing.
use borrow.Author.Rules.{rules}
use Rattle.output.proofs.WordLaws.{broken_short, broken_bare, number_is}
use Rattle.output.proofs.words.word_of.Goals as goal

pub returns-then-reached-word : goal.returns-then-reached-word
returns-then-reached-word c = search (rules, broken_short)

pub returns-then-reached-sign : goal.returns-then-reached-sign
returns-then-reached-sign c = search (rules, broken_bare)

pub returns : goal.returns
returns c = search (rules, number_is)
