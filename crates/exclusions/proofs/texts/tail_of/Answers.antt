-- `exclusions::texts::tail_of` meets its contract.
-- Assumes nothing.
use Rattle.exclusions.proofs.HeadTail.{tail_fits, tail_times4, tail_sum4, tail_times3, tail_sum3, tail_made5, tail_made4, tail_made3}
use borrow.Author.Rules.{rules}
use Rattle.exclusions.proofs.texts.tail_of.Goals as goal

pub word_of-word-requires : goal.word_of-word-requires
word_of-word-requires c = search (rules, tail_fits)

pub returns-then-q-ge-FIVE_DIGITS : goal.returns-then-q-ge-FIVE_DIGITS
returns-then-q-ge-FIVE_DIGITS c = search (rules, tail_made5)

pub overflow_mul-result : goal.overflow_mul-result
overflow_mul-result c = search (rules, tail_times4)

pub overflow_add-result : goal.overflow_add-result
overflow_add-result c = search (rules, tail_sum4)

pub returns-then-q-ge-FOUR_DIGITS : goal.returns-then-q-ge-FOUR_DIGITS
returns-then-q-ge-FOUR_DIGITS c = search (rules, tail_made4)

pub overflow_mul-result-3 : goal.overflow_mul-result-3
overflow_mul-result-3 c = search (rules, tail_times3)

pub overflow_add-result-2 : goal.overflow_add-result-2
overflow_add-result-2 c = search (rules, tail_sum3)

pub returns : goal.returns
returns c = search (rules, tail_made3)
