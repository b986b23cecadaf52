-- `take_line` meets its contract.
-- Assumes nothing.
use borrow.Author.Rules.{rules}
use Rattle.translator.proofs.ByteLaws.{further_line}
use Rattle.translator.proofs.intake.Intake.take_line.Goals as goal

pub returns-clause-rest : goal.returns-clause-rest
returns-clause-rest c = search (rules, further_line)
