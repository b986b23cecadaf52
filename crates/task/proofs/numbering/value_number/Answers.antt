-- `value_number` meets its contract.
-- Assumes nothing.
use borrow.Author.Rules.{rules}
use Rattle.task.proofs.Asking.{variable_few, stride_few, value_fits, value_within, value_numbered}
use Rattle.task.proofs.numbering.value_number.Goals as goal

pub offset-requires : goal.offset-requires
offset-requires c = search (rules, variable_few)

pub overflow_add-offset : goal.overflow_add-offset
overflow_add-offset c = search (rules, value_fits)

pub numbered-requires : goal.numbered-requires
numbered-requires c = search (rules, stride_few, value_within)

pub returns : goal.returns
returns c = search (rules, value_numbered)
