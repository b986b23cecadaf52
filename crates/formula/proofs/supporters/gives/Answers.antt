-- `supporters::gives` meets its contract.
-- Assumes nothing.
use borrow.Author.Rules.{rules}
use Rattle.formula.proofs.Supported.{gives_pair}
use Rattle.formula.proofs.supporters.gives.Goals as goal

pub returns : goal.returns
returns c = search (rules, gives_pair)
