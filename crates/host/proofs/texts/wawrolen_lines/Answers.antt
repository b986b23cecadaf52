-- `wawrolen_lines` meets its contract.
-- Assumes nothing.
use borrow.Author.Rules.{rules}
use Rattle.host.proofs.TextLaws.{text_told, lines_counted, bytes_counted}
use Rattle.host.proofs.texts.wawrolen_lines.Goals as goal

pub returns-clause-detail_after : goal.returns-clause-detail_after
returns-clause-detail_after c = search (rules, text_told)

pub returns-clause-lines_after : goal.returns-clause-lines_after
returns-clause-lines_after c = search (rules, lines_counted)

pub returns-clause-bytes_after : goal.returns-clause-bytes_after
returns-clause-bytes_after c = search (rules, bytes_counted)
