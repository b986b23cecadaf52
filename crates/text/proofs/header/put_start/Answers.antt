-- `put_start` meets its contract.
-- Assumes nothing.
use Rattle.text.proofs.Heading.{start_written}
use borrow.Author.Rules.{rules}
use Rattle.text.proofs.header.put_start.Goals as goal

pub returns-clause-written : goal.returns-clause-written
returns-clause-written c = search (rules, start_written)
