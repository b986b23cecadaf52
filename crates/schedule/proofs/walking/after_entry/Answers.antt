-- `after_entry` meets its contract.
-- Assumes nothing.
use borrow.Author.Rules.{rules}
use Rattle.schedule.proofs.WalkLaws.{moved}
use Rattle.schedule.proofs.walking.after_entry.Goals as goal

pub returns : goal.returns
returns c = search (rules, moved)
