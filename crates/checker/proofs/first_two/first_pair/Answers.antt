-- `first_pair` meets its contract.
-- Assumes nothing.
use Rattle.checker.proofs.FirstTwo.{few_set, second_counted, two_set}
use borrow.Author.Rules.{rules}
use Rattle.checker.proofs.first_two.first_pair.Goals as goal

pub returns-then-count_set-lt2 : goal.returns-then-count_set-lt2
returns-then-count_set-lt2 c = search (rules, few_set)

pub first_of_some-t-requires : goal.first_of_some-t-requires
first_of_some-t-requires c = search (rules, second_counted)

pub returns : goal.returns
returns c = search (rules, two_set)
