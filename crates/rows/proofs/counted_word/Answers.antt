-- `counted_word` meets its contract.
-- Assumes nothing.
use borrow.Author.Rules.{rules}
use Rattle.rows.proofs.Words.{counted_as_true, counted_as_false}
use Rattle.rows.proofs.counted_word.Goals as goal

pub returns-then-unnamed : goal.returns-then-unnamed
returns-then-unnamed c = search (rules, counted_as_true)

pub returns : goal.returns
returns c = search (rules, counted_as_false)
