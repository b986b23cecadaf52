-- `put_ended` meets its contract.
-- Assumes nothing.
use borrow.Author.Rules.{rules}
use Rattle.printing.proofs.Texts.{ended_put, ended_behind}
use Rattle.printing.proofs.put_ended.Goals as goal

pub returns-clause-written : goal.returns-clause-written
returns-clause-written c = search (rules, ended_put)

pub returns-clause-behind : goal.returns-clause-behind
returns-clause-behind c = search (rules, ended_behind)
