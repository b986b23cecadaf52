-- `tell_text` meets its contract.
-- Assumes nothing.
use borrow.Author.Rules.{rules}
use Rattle.host.proofs.TextLaws.{written_told, refused_told, bytes_written, no_bytes}
use Rattle.host.proofs.texts.tell_text.Goals as goal

pub returns-in-Ok : goal.returns-in-Ok
returns-in-Ok c = search (rules, written_told, bytes_written)

pub returns-in-Err : goal.returns-in-Err
returns-in-Err c = search (rules, refused_told, no_bytes)
