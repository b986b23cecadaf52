-- `digits::put_byte` meets its contract.
-- Assumes nothing.
use borrow.Author.Rules.{rules}
use Rattle.digits.proofs.Overs.{set_over}
use Rattle.digits.proofs.put_byte.Goals as goal

pub returns : goal.returns
returns c = search (rules, set_over)
