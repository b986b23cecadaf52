-- `placing::place_of` meets its contract.
-- Assumes nothing.
use borrow.Author.Rules.{rules}
use Rattle.formula.proofs.ByPlace.{some_width, place_found, step_below, rest_below}
use Rattle.formula.proofs.placing.place_of.Goals as goal

pub nonzero_div-rank : goal.nonzero_div-rank
nonzero_div-rank c = search (rules, some_width)

pub nonzero_rem-rank : goal.nonzero_rem-rank
nonzero_rem-rank c = search (rules, some_width)

pub place_in-requires : goal.place_in-requires
place_in-requires c = (search (rules, step_below), search (rules, rest_below))

pub returns : goal.returns
returns c = search (rules, place_found)
