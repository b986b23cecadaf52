-- `exclusions::texts::head_of` meets its contract.
-- Assumes nothing.
use Rattle.exclusions.proofs.HeadTail.{head_fits, head_times, head_sum, head_made}
use borrow.Author.Rules.{rules}
use Rattle.exclusions.proofs.texts.head_of.Goals as goal

pub word_of-requires : goal.word_of-requires
word_of-requires c = search (rules, head_fits)

pub overflow_mul-result : goal.overflow_mul-result
overflow_mul-result c = search (rules, head_times)

pub overflow_add-result : goal.overflow_add-result
overflow_add-result c = search (rules, head_sum)

pub returns : goal.returns
returns c = search (rules, head_made)
