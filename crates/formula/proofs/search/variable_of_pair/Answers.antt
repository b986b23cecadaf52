-- `search::variable_of_pair` meets its contract.
-- Assumes nothing.
use borrow.Author.Rules.{rules}
use Rattle.formula.proofs.Finding.{pairs_span, pair_part}
use Rattle.formula.proofs.search.variable_of_pair.Goals as goal

pub row_of-requires : goal.row_of-requires
row_of-requires c = search (rules, pairs_span)

pub returns : goal.returns
returns c = search (rules, pair_part)
