-- `tell` meets its contract.
-- Assumes nothing.
use borrow.Author.Rules.{rules}
use Rattle.host.proofs.Crossing.{told_accepted, told_refused}
use Rattle.host.proofs.answers.tell.Goals as goal

pub returns-in-Ok : goal.returns-in-Ok
returns-in-Ok c = search (rules, told_accepted)

pub returns-in-Err : goal.returns-in-Err
returns-in-Err c = search (rules, told_refused)
