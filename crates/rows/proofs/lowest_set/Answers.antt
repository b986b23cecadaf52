-- `lowest_set` meets its contract.
-- Assumes nothing.
use borrow.Author.Rules.{rules}
use Rattle.rows.proofs.StretchLaws.{zeros_are}
use Rattle.rows.proofs.lowest_set.Goals as goal

pub returns : goal.returns
returns c = search (rules, zeros_are)
