-- `wawrolen_end_reading` meets its contract.
-- Assumes nothing.
use borrow.Author.Rules.{rules}
use Rattle.host.proofs.LeftLaws.{end_told, end_entries_lem}
use Rattle.host.proofs.readings.wawrolen_end_reading.Goals as goal

pub returns : goal.returns
returns c = search (rules, end_told, end_entries_lem)
