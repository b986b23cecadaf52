-- `write_word` meets its contract.
-- Assumes nothing.
use borrow.Author.Rules.{rules}
use Rattle.output.proofs.TrialLaws.{write_broken, write_zero, write_one}
use Rattle.output.proofs.numbers.write_word.Goals as goal

pub returns-in_default : goal.returns-in_default
returns-in_default c = search (rules, write_broken)

pub returns-then-variable-ne0 : goal.returns-then-variable-ne0
returns-then-variable-ne0 c = search (rules, write_one)

pub returns-else-variable-ne0 : goal.returns-else-variable-ne0
returns-else-variable-ne0 c = search (rules, write_zero)
