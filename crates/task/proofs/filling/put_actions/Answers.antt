-- `put_actions` meets its contract.
-- Assumes nothing.
use borrow.Author.Rules.{rules}
use Rattle.task.proofs.Rows.{middle_filled}
use Rattle.task.proofs.filling.put_actions.Goals as goal

pub returns : goal.returns
returns c = search (rules, middle_filled)
