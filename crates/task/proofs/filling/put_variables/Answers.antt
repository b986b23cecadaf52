-- `put_variables` meets its contract.
-- Assumes nothing.
use borrow.Author.Rules.{rules}
use Rattle.task.proofs.Rows.{front_long, long_front}
use Rattle.task.proofs.filling.put_variables.Goals as goal

pub slice_bounds-fill_variables-end-2 : goal.slice_bounds-fill_variables-end-2
slice_bounds-fill_variables-end-2 c = search (rules, front_long)

pub fill_variables-requires : goal.fill_variables-requires
fill_variables-requires c = search (rules, long_front)
