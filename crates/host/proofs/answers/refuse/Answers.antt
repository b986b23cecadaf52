-- `refuse` meets its contract.
-- Assumes nothing.
use borrow.Author.Rules.{rules}
use Rattle.host.proofs.Crossing.{refused_is}
use Rattle.host.proofs.answers.refuse.Goals as goal

pub returns : goal.returns
returns c = search (rules, refused_is)
