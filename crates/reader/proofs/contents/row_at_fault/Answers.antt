-- `row_at_fault` meets its contract.
-- Assumes nothing.
use borrow.Author.Rules.{rules}
use Rattle.reader.proofs.ReadContents.{row_wrong_start, row_early, row_last}
use Rattle.reader.proofs.contents.row_at_fault.Goals as goal

pub returns-then-body_start-due_start : goal.returns-then-body_start-due_start
returns-then-body_start-due_start c = search (rules, row_wrong_start)

pub returns-then-row-lt-CONTENTS_ROWS : goal.returns-then-row-lt-CONTENTS_ROWS
returns-then-row-lt-CONTENTS_ROWS c = search (rules, row_early)

pub returns : goal.returns
returns c = search (rules, row_last)
