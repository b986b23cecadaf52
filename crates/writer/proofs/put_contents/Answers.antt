-- `put_contents` meets its contract.
-- Assumes nothing.
use borrow.Author.Rules.{rules}
use Rattle.writer.proofs.Laying.{contents_put}
use Rattle.writer.proofs.put_contents.Goals as goal

pub returns : goal.returns
returns c = search (rules, contents_put)
