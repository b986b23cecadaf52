-- `number` meets its contract.
-- Assumes nothing.
use borrow.Author.Rules.{rules}
use Rattle.textlines.proofs.PlainLaws.{plain_few}
use Rattle.textlines.proofs.plain.number.Goals as goal

pub value-requires : goal.value-requires
value-requires c = search (rules, plain_few)
