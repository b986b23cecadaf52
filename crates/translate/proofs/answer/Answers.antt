-- `answer` meets its contract.
-- Assumes nothing.
use borrow.Author.Rules.{rules}
use Rattle.translate.proofs.Prints.{answered_short, answered_long}
use Rattle.translate.proofs.answer.Goals as goal

pub returns-then-first-lt-PART_ROOM : goal.returns-then-first-lt-PART_ROOM
returns-then-first-lt-PART_ROOM c = search (rules, answered_short)

pub returns : goal.returns
returns c = search (rules, answered_long)
