-- `end_with` meets its contract.
-- Assumes nothing.
use borrow.Author.Rules.{rules}
use Rattle.translator.proofs.EndLaws.{file_holds}
use Rattle.translator.proofs.intake.Intake.end_with.Goals as goal

pub write_kept-requires : goal.write_kept-requires
write_kept-requires c = search (rules, file_holds)
