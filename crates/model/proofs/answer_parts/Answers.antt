-- `answer_parts` meets its contract.
-- Assumes nothing.
use borrow.Author.Rules.{rules}
use Rattle.model.proofs.Prints.{ended_some}
use Rattle.model.proofs.answer_parts.Goals as goal

pub returns : goal.returns
returns c = search (rules, ended_some)
