-- `put_half` meets its contract.
-- Assumes nothing.
use borrow.Author.Rules.{rules}
use Rattle.writer.proofs.Laying.{half_put}
use Rattle.writer.proofs.put_half.Goals as goal

pub returns : goal.returns
returns c = search (rules, half_put)
