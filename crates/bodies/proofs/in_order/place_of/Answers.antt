-- Assumes nothing.
use borrow.Author.Rules.{rules}
use Rattle.bodies.proofs.InOrder.{place_found, place_behind}
use Rattle.bodies.proofs.in_order.place_of.Goals as goal

pub returns-then-variable-s : goal.returns-then-variable-s
returns-then-variable-s c = search (rules, place_found)

pub returns : goal.returns
returns c = search (rules, place_behind)
