-- `written::put_implies` meets its contract.
-- Assumes nothing.
use borrow.Author.Rules.{rules}
use Rattle.formula.proofs.Writing.{two_written}
use Rattle.formula.proofs.written.put_implies.Goals as goal

pub returns : goal.returns
returns c = search (rules, two_written)
