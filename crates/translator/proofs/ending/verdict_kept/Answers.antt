-- `verdict_kept` meets its contract.
-- Assumes nothing.
use borrow.Author.Rules.{rules}
use Rattle.translator.proofs.EndLaws.{verdict_within}
use Rattle.translator.proofs.ending.verdict_kept.Goals as goal

pub returns-in-Within : goal.returns-in-Within
returns-in-Within c = search (rules, verdict_within)
