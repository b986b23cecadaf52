-- `wawrolen_counts` meets its contract.
-- Assumes nothing.
use borrow.Author.Rules.{rules}
use Rattle.host.proofs.FoundLaws.{counts_told, variables_counted, clauses_counted, counts_refused, none_counted}
use Rattle.host.proofs.formulas.wawrolen_counts.Goals as goal

pub returns-in-Ok : goal.returns-in-Ok
returns-in-Ok c = search (rules, counts_told, variables_counted, clauses_counted)

pub returns-in-Err : goal.returns-in-Err
returns-in-Err c = search (rules, counts_refused, none_counted)
