-- `pair_at_fault` meets its contract.
-- Assumes nothing.
use borrow.Author.Rules.{rules}
use Rattle.reader.proofs.ReadChecks.{variable_outside, value_outside, first_pair, later_pair}
use Rattle.reader.proofs.checks.pair_at_fault.Goals as goal

pub returns-then-sizes-variable : goal.returns-then-sizes-variable
returns-then-sizes-variable c = search (rules, variable_outside)

pub returns-then-byte_at : goal.returns-then-byte_at
returns-then-byte_at c = search (rules, value_outside)

pub returns-then-i-eq0 : goal.returns-then-i-eq0
returns-then-i-eq0 c = search (rules, first_pair)

pub returns : goal.returns
returns c = search (rules, later_pair)
