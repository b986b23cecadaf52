-- `give_all` meets its contract.
-- Assumes nothing.
use borrow.Author.Rules.{rules}
use Rattle.schedule.proofs.BackLaws.{given_written}
use Rattle.schedule.proofs.back.give_all.Goals as goal

pub returns : goal.returns
returns c = search (rules, given_written)
