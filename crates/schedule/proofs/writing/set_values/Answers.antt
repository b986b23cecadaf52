-- Assumes nothing.
use borrow.Author.Rules.{rules}
use Rattle.schedule.proofs.WriteLaws.{values_long, value_known, value_inside, values_none, values_more, values_done}
use Rattle.schedule.proofs.writing.set_values.Goals as goal

pub slice_bounds-value-items-end : goal.slice_bounds-value-items-end
slice_bounds-value-items-end c = search (rules, values_long)

pub loop-x-init : goal.loop-x-init
loop-x-init c = search (rules, values_none)

pub set_value-requires : goal.set_value-requires
set_value-requires c = search (rules, value_known, value_inside)

pub loop-x-preserved : goal.loop-x-preserved
loop-x-preserved c = search (rules, values_more, values_long)

pub returns : goal.returns
returns c = search (rules, values_done, values_long)
