-- `written::put_plus` meets its contract.
-- Assumes nothing.
use borrow.Author.Rules.{rules}
use Rattle.formula.proofs.Writing.{plus_written}
use Rattle.formula.proofs.written.put_plus.Goals as goal

pub returns : goal.returns
returns c = search (rules, plus_written)
