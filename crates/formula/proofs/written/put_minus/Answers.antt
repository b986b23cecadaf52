-- `written::put_minus` meets its contract.
-- Assumes nothing.
use borrow.Author.Rules.{rules}
use Rattle.formula.proofs.Writing.{minus_written}
use Rattle.formula.proofs.written.put_minus.Goals as goal

pub returns : goal.returns
returns c = search (rules, minus_written)
