-- `wawrolen_translate` meets its contract.
-- Assumes nothing.
use borrow.Author.Rules.{rules}
use Rattle.host.proofs.TranslationLaws.{written_told, bytes_counted, refused_told, none_counted}
use Rattle.host.proofs.translations.wawrolen_translate.Goals as goal

pub returns-in-Ok : goal.returns-in-Ok
returns-in-Ok c = search (rules, written_told, bytes_counted)

pub returns-in-Err : goal.returns-in-Err
returns-in-Err c = search (rules, refused_told, none_counted)
