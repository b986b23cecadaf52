-- `model_verdict` meets its contract.
-- Assumes nothing.
use Rattle.checker.proofs.EndLaws.{clause_unmet, clauses_met}
use borrow.Author.Rules.{rules}
use Rattle.checker.proofs.end.model_verdict.Goals as goal

pub returns-then-lowest-all_clauses : goal.returns-then-lowest-all_clauses
returns-then-lowest-all_clauses c = search (rules, clause_unmet)

pub returns : goal.returns
returns c = search (rules, clauses_met)
