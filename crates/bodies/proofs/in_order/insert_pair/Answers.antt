-- `bodies::in_order::insert_pair` meets its contract.
-- Assumes nothing.
use borrow.Author.Rules.{rules}
use Rattle.bodies.proofs.InOrderBytes.{inserted, copied_up}
use Rattle.bodies.proofs.in_order.insert_pair.Goals as goal

pub returns : goal.returns
returns c = search (rules, inserted, copied_up)
