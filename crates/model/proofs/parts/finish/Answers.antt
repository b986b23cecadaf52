-- `finish` meets its contract.
-- Assumes nothing.
use borrow.Author.Rules.{rules}
use Rattle.model.proofs.Ways.{last_refused, last_refused_behind, last_next, last_next_behind}
use Rattle.model.proofs.parts.finish.Goals as goal

pub returns-in-Err : goal.returns-in-Err
returns-in-Err c = search (rules, last_refused, last_refused_behind)

pub returns-in-Ok : goal.returns-in-Ok
returns-in-Ok c = search (rules, last_next, last_next_behind)
