-- `print_answer` meets its contract.
-- Assumes nothing.
use Rattle.task.proofs.Stated.{file_accepted, indexed, horizon_right}
use Rattle.clauses.proofs.Prefix.{prefix_long, refusal_here, refusal_counted, text_counted}
use borrow.Author.Rules.{rules}
use Rattle.clauses.proofs.print_answer.Goals as goal

pub slice_bounds-write_all-end : goal.slice_bounds-write_all-end
slice_bounds-write_all-end c = search (rules, refusal_here)

pub slice_bounds-write_all-end-in-Err : goal.slice_bounds-write_all-end-in-Err
slice_bounds-write_all-end-in-Err c = search (rules, prefix_long, refusal_here)

pub returns-in-Err : goal.returns-in-Err
returns-in-Err c = search (rules, refusal_counted)

pub fill_index-requires : goal.fill_index-requires
fill_index-requires c = search (rules, file_accepted)

pub invariant_of-task : goal.invariant_of-task
invariant_of-task c = search (rules, indexed)

pub invariant_of-asked : goal.invariant_of-asked
invariant_of-asked c = search (rules, horizon_right)

pub returns : goal.returns
returns c = search (rules, text_counted)
