-- `answer_first` meets its contract.
-- Assumes nothing.
use borrow.Author.Rules.{rules}
use Rattle.translate.proofs.Prints.{shown_same}
use Rattle.translate.proofs.answer_first.Goals as goal

pub returns : goal.returns
returns c = search (rules, shown_same)
