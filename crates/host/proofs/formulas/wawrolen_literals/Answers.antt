-- `wawrolen_literals` meets its contract.
-- Assumes nothing.
use borrow.Author.Rules.{rules}
use Rattle.host.proofs.FoundLaws.{literals_told, literals_counted, literals_refused, no_literals_counted}
use Rattle.host.proofs.formulas.wawrolen_literals.Goals as goal

pub returns-in-Ok : goal.returns-in-Ok
returns-in-Ok c = search (rules, literals_told, literals_counted)

pub returns-in-Err : goal.returns-in-Err
returns-in-Err c = search (rules, literals_refused, no_literals_counted)
