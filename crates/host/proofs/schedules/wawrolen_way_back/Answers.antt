-- `wawrolen_way_back` meets its contract.
-- Assumes nothing.
use borrow.Author.Rules.{rules}
use Rattle.host.proofs.Crossing.{told}
use Rattle.host.proofs.schedules.wawrolen_way_back.Goals as goal

pub returns : goal.returns
returns c = search (rules, told)
