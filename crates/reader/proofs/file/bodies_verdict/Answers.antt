-- `bodies_verdict` meets its contract.
-- Assumes nothing.
use borrow.Author.Rules.{rules}
use Rattle.reader.proofs.ReadFile.{lengths_wrong, size_wrong, sum_wrong, start_wrong, goal_wrong, actions_last}
use Rattle.reader.proofs.file.bodies_verdict.Goals as goal

pub returns-then-not-lengths_fit : goal.returns-then-not-lengths_fit
returns-then-not-lengths_fit c = search (rules, lengths_wrong)

pub returns-then-size-n : goal.returns-then-size-n
returns-then-size-n c = search (rules, size_wrong)

pub returns-then-sum_of_sizes-gt-MAX_VALUES : goal.returns-then-sum_of_sizes-gt-MAX_VALUES
returns-then-sum_of_sizes-gt-MAX_VALUES c = search (rules, sum_wrong)

pub returns-then-value-n : goal.returns-then-value-n
returns-then-value-n c = search (rules, start_wrong)

pub returns-then-pair-pairs : goal.returns-then-pair-pairs
returns-then-pair-pairs c = search (rules, goal_wrong)

pub returns : goal.returns
returns c = search (rules, actions_last)
