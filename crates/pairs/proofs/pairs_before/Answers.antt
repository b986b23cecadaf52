-- `pairs::pairs_before` meets its contract: under the bound on m the product fits.
-- Assumes nothing.
use borrow.Author.Rules.{rules}
use Rattle.pairs.proofs.Pair.{counted}
use Rattle.pairs.proofs.pairs_before.Goals as goal

pub returns : goal.returns
returns c = search (rules, counted)
