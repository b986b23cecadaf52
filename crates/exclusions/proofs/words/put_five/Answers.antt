-- `exclusions::words::put_five` meets its contract.
-- Assumes nothing.
use Rattle.exclusions.proofs.ByWords.{five_written}
use borrow.Author.Rules.{rules}
use Rattle.exclusions.proofs.words.put_five.Goals as goal

pub returns-clause-written : goal.returns-clause-written
returns-clause-written c = search (rules, five_written)
