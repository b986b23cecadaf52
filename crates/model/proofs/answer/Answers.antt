-- `answer` meets its contract.
-- Assumes nothing.
use borrow.Author.Rules.{rules}
use Rattle.model.proofs.Prints.{answered_short, answered_long}
use Rattle.model.proofs.answer.Goals as goal

pub returns-then-first-lt-FIRST_ROOM : goal.returns-then-first-lt-FIRST_ROOM
returns-then-first-lt-FIRST_ROOM c = search (rules, answered_short)

pub returns : goal.returns
returns c = search (rules, answered_long)
