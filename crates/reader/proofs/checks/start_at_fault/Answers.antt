-- `start_at_fault` meets its contract.
-- Assumes nothing.
use borrow.Author.Rules.{rules}
use Rattle.reader.proofs.ReadChecks.{start_outside}
use Rattle.reader.proofs.checks.start_at_fault.Goals as goal

pub returns : goal.returns
returns c = search (rules, start_outside)
