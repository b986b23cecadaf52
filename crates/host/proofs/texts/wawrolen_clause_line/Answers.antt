-- `wawrolen_clause_line` meets its contract.
-- Assumes nothing.
use borrow.Author.Rules.{rules}
use Rattle.host.proofs.TextLaws.{text_told, bytes_counted}
use Rattle.host.proofs.texts.wawrolen_clause_line.Goals as goal

pub returns : goal.returns
returns c = search (rules, text_told, bytes_counted)
