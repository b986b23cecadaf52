-- `wawrolen_body` meets its contract.
-- Assumes nothing.
use borrow.Author.Rules.{rules}
use Rattle.host.proofs.Crossing.{told}
use Rattle.host.proofs.FoundLaws.{size_is}
use Rattle.host.proofs.files.wawrolen_body.Goals as goal

pub returns : goal.returns
returns c = search (rules, told, size_is)
