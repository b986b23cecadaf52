-- `action_number` meets its contract.
-- Assumes nothing.
use borrow.Author.Rules.{rules}
use Rattle.task.proofs.Asking.{stride_few, action_within, action_numbered}
use Rattle.task.proofs.numbering.action_number.Goals as goal

pub numbered-requires : goal.numbered-requires
numbered-requires c = search (rules, stride_few, action_within)

pub returns : goal.returns
returns c = search (rules, action_numbered)
