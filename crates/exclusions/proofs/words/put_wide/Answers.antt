-- `exclusions::words::put_wide` meets its contract.
-- Assumes nothing.
use Rattle.exclusions.proofs.ByWords.{ten_written}
use borrow.Author.Rules.{rules}
use Rattle.exclusions.proofs.words.put_wide.Goals as goal

pub returns-clause-written : goal.returns-clause-written
returns-clause-written c = search (rules, ten_written)
