-- `entry_applies` meets its contract.
-- Assumes nothing.
use borrow.Author.Rules.{rules}
use Rattle.schedule.proofs.WalkLaws.{an_entry}
use Rattle.schedule.proofs.walking.entry_applies.Goals as goal

pub returns : goal.returns
returns c = search (rules, an_entry)
