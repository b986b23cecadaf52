-- `search::number_at` meets its contract.
-- Assumes nothing.
use borrow.Author.Rules.{rules}
use Rattle.formula.proofs.Finding.{column_read}
use Rattle.formula.proofs.search.number_at.Goals as goal

pub returns : goal.returns
returns c = search (rules, column_read)
