-- `first_value` meets its contract.
-- Assumes nothing.
use Rattle.checker.proofs.Asked.{inside_first}
use borrow.Author.Rules.{rules}
use Rattle.checker.proofs.bits.first_value.Goals as goal

pub value_number-requires : goal.value_number-requires
value_number-requires c = search (rules, inside_first)
