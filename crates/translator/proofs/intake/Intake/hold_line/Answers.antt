-- `hold_line` meets its contract.
-- Assumes nothing.
use borrow.Author.Rules.{rules}
use Rattle.translator.proofs.ByteLaws.{refused_holds, line_holds}
use Rattle.translator.proofs.intake.Intake.hold_line.Goals as goal

pub returns-in_default : goal.returns-in_default
returns-in_default c = search (rules, refused_holds)

pub returns : goal.returns
returns c = search (rules, line_holds)
