-- `reach_of` meets its contract.
-- Assumes nothing.
use borrow.Author.Rules.{rules}
use Rattle.output.proofs.WordLaws.{reach_zero, value_zero, reach_run, value_run}
use Rattle.output.proofs.words.reach_of.Goals as goal

pub returns-then-byte_at-eq48 : goal.returns-then-byte_at-eq48
returns-then-byte_at-eq48 c = search (rules, reach_zero, value_zero)

pub returns : goal.returns
returns c = search (rules, reach_run, value_run)
