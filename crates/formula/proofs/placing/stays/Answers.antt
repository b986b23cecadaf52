-- `placing::stays` meets its contract.
-- Assumes nothing.
use borrow.Author.Rules.{rules}
use Rattle.formula.proofs.ByPlace.{values_wanted, variable_few, stays_placed}
use Rattle.formula.proofs.placing.stays.Goals as goal

pub variable_of_value-x-requires : goal.variable_of_value-x-requires
variable_of_value-x-requires c = search (rules, values_wanted)

pub offset-requires : goal.offset-requires
offset-requires c = search (rules, variable_few)

pub returns : goal.returns
returns c = search (rules, stays_placed)
