-- `exclusions::words::put_two` meets its contract.
-- Assumes nothing.
use Rattle.exclusions.proofs.ByWords.{two_written}
use borrow.Author.Rules.{rules}
use Rattle.exclusions.proofs.words.put_two.Goals as goal

pub returns-clause-written : goal.returns-clause-written
returns-clause-written c = search (rules, two_written)
