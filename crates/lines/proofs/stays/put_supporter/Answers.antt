-- `stays::put_supporter` meets its contract.
-- Assumes nothing.
use borrow.Author.Rules.{rules}
use Rattle.lines.proofs.Supported.{value_fits, one_supporter, no_supporter}
use Rattle.lines.proofs.stays.put_supporter.Goals as goal

pub overflow_cast-v : goal.overflow_cast-v
overflow_cast-v c = search (rules, value_fits)

pub returns-then-eq-clause-written : goal.returns-then-eq-clause-written
returns-then-eq-clause-written c = search (rules, one_supporter)

pub returns-clause-written : goal.returns-clause-written
returns-clause-written c = search (rules, no_supporter)
