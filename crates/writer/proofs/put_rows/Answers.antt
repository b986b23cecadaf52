-- `put_rows` meets its contract.
-- Assumes nothing.
use borrow.Author.Rules.{rules}
use Rattle.writer.proofs.Laying.{rows_put}
use Rattle.writer.proofs.put_rows.Goals as goal

pub returns : goal.returns
returns c = search (rules, rows_put)
