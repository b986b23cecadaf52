-- `search::action_of_precondition` meets its contract.
-- Assumes nothing.
use borrow.Author.Rules.{rules}
use Rattle.formula.proofs.Finding.{preconditions_span, precondition_part}
use Rattle.formula.proofs.search.action_of_precondition.Goals as goal

pub row_of-requires : goal.row_of-requires
row_of-requires c = search (rules, preconditions_span)

pub returns : goal.returns
returns c = search (rules, precondition_part)
