-- `tell_line` meets its contract.
-- Assumes nothing.
use borrow.Author.Rules.{rules}
use Rattle.host.proofs.Crossing.{told_next, told_line_refused, phase_next, phase_as_found}
use Rattle.host.proofs.answers.tell_line.Goals as goal

pub returns-in-Ok : goal.returns-in-Ok
returns-in-Ok c = search (rules, told_next, phase_next)

pub returns-in-Err : goal.returns-in-Err
returns-in-Err c = search (rules, told_line_refused, phase_as_found)
