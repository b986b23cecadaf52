-- `counts_true` meets its contract: what is given counts as its truth.
-- Assumes nothing.
use borrow.Author.Rules.{rules}
use Rattle.rows.proofs.Words.{counts_named, counts_unnamed}
use Rattle.rows.proofs.counts_true.Goals as goal

pub returns-then-is_set : goal.returns-then-is_set
returns-then-is_set c = search (rules, counts_named)

pub returns : goal.returns
returns c = search (rules, counts_unnamed)
