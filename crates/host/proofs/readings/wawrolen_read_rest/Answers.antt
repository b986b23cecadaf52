-- `wawrolen_read_rest` meets its contract.
-- Assumes nothing.
use borrow.Author.Rules.{rules}
use Rattle.host.proofs.LeftLaws.{rest_left}
use Rattle.host.proofs.readings.wawrolen_read_rest.Goals as goal

pub returns : goal.returns
returns c = search (rules, rest_left)
