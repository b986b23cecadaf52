-- `exclusions::exact::put_line` meets its contract.
-- Assumes nothing.
use Rattle.exclusions.proofs.ByBytes.{line_written, line_within}
use borrow.Author.Rules.{rules}
use Rattle.exclusions.proofs.exact.put_line.Goals as goal

pub returns-clause-written : goal.returns-clause-written
returns-clause-written c = search (rules, line_written)

pub returns-clause-within : goal.returns-clause-within
returns-clause-within c = search (rules, line_within)
