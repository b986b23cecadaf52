-- `take_first` meets its contract.
-- Assumes nothing.
use borrow.Author.Rules.{rules}
use Rattle.translate.proofs.Prints.{first_taken}
use Rattle.translate.proofs.take_first.Goals as goal

pub returns : goal.returns
returns c = search (rules, first_taken)
