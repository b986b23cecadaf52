-- `end_text` meets its contract.
-- Assumes nothing.
use borrow.Author.Rules.{rules}
use Rattle.translate.proofs.Prints.{written_shown, refused_shown}
use Rattle.translate.proofs.end_text.Goals as goal

pub returns-in-Ok : goal.returns-in-Ok
returns-in-Ok c = search (rules, written_shown)

pub returns-in-Err : goal.returns-in-Err
returns-in-Err c = search (rules, refused_shown)
