-- `header::put_header` meets its contract.
-- Assumes nothing.
use Rattle.text.proofs.Heading.{variables_most, clauses_most, header_written}
use borrow.Author.Rules.{rules}
use Rattle.text.proofs.header.put_header.Goals as goal

pub put_counts-requires : goal.put_counts-requires
put_counts-requires c = search (rules, variables_most, clauses_most)

pub returns-clause-written : goal.returns-clause-written
returns-clause-written c = search (rules, header_written)
