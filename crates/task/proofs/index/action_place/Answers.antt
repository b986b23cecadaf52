-- `action_place` meets its contract.
-- Assumes nothing.
use borrow.Author.Rules.{rules}
use mathlib.Core.Path.{◌∙◌}
use native.Mathlib.Omega.{arith}
use Rattle.task.proofs.Asking.{index_long, place_asked}
use Rattle.task.proofs.index.action_place.Goals as goal

pub number_in-requires : goal.number_in-requires
number_in-requires c = omega (arith, index_long)

pub returns : goal.returns
returns c = search (rules, ◌∙◌, place_asked)
