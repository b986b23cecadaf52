-- `single::put_in_turn` meets its contract.
-- Assumes nothing.
use Rattle.parts.proofs.OneLine.{no_part, copied_part}
use borrow.Author.Rules.{rules}
use Rattle.parts.proofs.single.put_in_turn.Goals as goal

pub returns-then-out-at-clause-part : goal.returns-then-out-at-clause-part
returns-then-out-at-clause-part c = search (rules, no_part)

pub returns-clause-part : goal.returns-clause-part
returns-clause-part c = search (rules, copied_part)
