-- `comment_line` meets its contract.
-- Assumes nothing.
use borrow.Author.Rules.{rules}
use Rattle.output.proofs.StatusLaws.{comment_skipped, comment_broken}
use Rattle.output.proofs.status.comment_line.Goals as goal

pub returns-then-stands_alone : goal.returns-then-stands_alone
returns-then-stands_alone c = search (rules, comment_skipped)

pub returns : goal.returns
returns c = search (rules, comment_broken)
