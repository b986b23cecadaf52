-- `put_number` meets its contract.
-- Assumes nothing.
use borrow.Author.Rules.{rules}
use Rattle.writer.proofs.Laying.{number_put}
use Rattle.writer.proofs.put_number.Goals as goal

pub returns : goal.returns
returns c = search (rules, number_put)
