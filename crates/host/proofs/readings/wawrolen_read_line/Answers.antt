-- `wawrolen_read_line` meets its contract.
-- Assumes nothing.
use borrow.Author.Rules.{rules}
use Rattle.host.proofs.LeftLaws.{line_left}
use Rattle.host.proofs.readings.wawrolen_read_line.Goals as goal

pub returns : goal.returns
returns c = search (rules, line_left)
