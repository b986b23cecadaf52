-- `put_row` meets its contract.
-- Assumes nothing.
use borrow.Author.Rules.{rules}
use Rattle.writer.proofs.Laying.{row_put}
use Rattle.writer.proofs.put_row.Goals as goal

pub returns : goal.returns
returns c = search (rules, row_put)
