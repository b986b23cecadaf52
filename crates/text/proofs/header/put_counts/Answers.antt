-- `header::put_counts` meets its contract.
-- Assumes nothing.
use Rattle.text.proofs.Heading.{counts_written}
use borrow.Author.Rules.{rules}
use Rattle.text.proofs.header.put_counts.Goals as goal

pub returns-clause-written : goal.returns-clause-written
returns-clause-written c = search (rules, counts_written)
