-- `put_bodies` meets its contract.
-- Assumes nothing.
use borrow.Author.Rules.{rules}
use Rattle.writer.proofs.Laying.{bodies_put}
use Rattle.writer.proofs.put_bodies.Goals as goal

pub returns : goal.returns
returns c = search (rules, bodies_put)
