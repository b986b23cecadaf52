-- `wawrolen_start_reading` meets its contract.
-- Assumes nothing.
use borrow.Author.Rules.{rules}
use Rattle.host.proofs.LeftLaws.{start_left, start_highest}
use Rattle.host.proofs.readings.wawrolen_start_reading.Goals as goal

pub returns : goal.returns
returns c = search (rules, start_left, start_highest)
