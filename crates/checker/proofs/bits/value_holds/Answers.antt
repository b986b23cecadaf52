-- `value_holds` meets its contract.
-- Assumes nothing.
use Rattle.checker.proofs.Asked.{inside_value}
use borrow.Author.Rules.{rules}
use Rattle.checker.proofs.bits.value_holds.Goals as goal

pub pair_holds-requires : goal.pair_holds-requires
pair_holds-requires c = search (rules, inside_value)
