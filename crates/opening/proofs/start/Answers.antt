-- `start` meets its contract.
-- Assumes nothing.
use borrow.Author.Rules.{rules}
use Rattle.opening.proofs.Begun.{begun_refused, begun_found}
use Rattle.opening.proofs.start.Goals as goal

pub returns-in_err-counts : goal.returns-in_err-counts
returns-in_err-counts c = search (rules, begun_refused)

pub returns : goal.returns
returns c = begun_found _ _ _ _ _ _ _ _ _ c.counts.ensures c.in_ok-counts.was c.start.ensures
