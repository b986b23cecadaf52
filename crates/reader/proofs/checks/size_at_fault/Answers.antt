-- `size_at_fault` meets its contract.
-- Assumes nothing.
use borrow.Author.Rules.{rules}
use Rattle.reader.proofs.ReadChecks.{no_value_lem, many_values}
use Rattle.reader.proofs.checks.size_at_fault.Goals as goal

pub returns-then-size-lt1 : goal.returns-then-size-lt1
returns-then-size-lt1 c = search (rules, no_value_lem)

pub returns : goal.returns
returns c = search (rules, many_values)
