-- `start_state` meets its contract.
-- Assumes nothing.
use borrow.Author.Rules.{rules}
use Rattle.task.proofs.Bytes.{contents_ok}
use Rattle.schedule.proofs.WalkLaws.{started}
use Rattle.schedule.proofs.walking.start_state.Goals as goal

pub row_body-requires : goal.row_body-requires
row_body-requires c = search (rules, contents_ok)

pub returns : goal.returns
returns c = search (rules, started)
