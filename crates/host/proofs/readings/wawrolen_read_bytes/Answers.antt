-- `wawrolen_read_bytes` meets its contract.
-- Assumes nothing.
use borrow.Author.Rules.{rules}
use Rattle.host.proofs.LeftLaws.{bytes_left}
use Rattle.host.proofs.readings.wawrolen_read_bytes.Goals as goal

pub returns : goal.returns
returns c = search (rules, bytes_left)
