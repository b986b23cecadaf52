-- `following::preconditions_of` meets its contract.
-- Assumes nothing.
use Rattle.parts.proofs.InTurn.{row_fits, row_next, row_here, precondition_counts, precondition_count}
use borrow.Author.Rules.{rules}
use Rattle.parts.proofs.following.preconditions_of.Goals as goal

pub overflow_add-a : goal.overflow_add-a
overflow_add-a c = search (rules, row_fits)

pub preconditions_before-requires : goal.preconditions_before-requires
preconditions_before-requires c = search (rules, row_next)

pub preconditions_before-requires-2 : goal.preconditions_before-requires-2
preconditions_before-requires-2 c = search (rules, row_here)

pub overflow_sub-result : goal.overflow_sub-result
overflow_sub-result c = search (rules, precondition_counts)

pub returns : goal.returns
returns c = search (rules, precondition_count)
