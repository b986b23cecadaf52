-- `search::variable_of_value` meets its contract.
-- Assumes nothing.
use borrow.Author.Rules.{rules}
use Rattle.formula.proofs.Finding.{values_span, value_part}
use Rattle.formula.proofs.search.variable_of_value.Goals as goal

pub row_of-requires : goal.row_of-requires
row_of-requires c = search (rules, values_span)

pub returns : goal.returns
returns c = search (rules, value_part)
