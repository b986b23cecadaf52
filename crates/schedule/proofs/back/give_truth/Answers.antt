-- `give_truth` meets its contract.
-- Assumes nothing.
use borrow.Author.Rules.{rules}
use Rattle.schedule.proofs.BackLaws.{truth_written}
use Rattle.schedule.proofs.back.give_truth.Goals as goal

pub returns : goal.returns
returns c = search (rules, truth_written)
