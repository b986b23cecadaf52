-- `answer_parts` meets its contract.
-- Assumes nothing.
use borrow.Author.Rules.{rules}
use Rattle.translate.proofs.Prints.{behind_same}
use Rattle.translate.proofs.answer_parts.Goals as goal

pub returns : goal.returns
returns c = search (rules, behind_same)
