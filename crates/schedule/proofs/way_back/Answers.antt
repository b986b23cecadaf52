-- `way_back` meets its contract.
-- Assumes nothing.
use borrow.Author.Rules.{rules}
use Rattle.task.proofs.Stated.{file_accepted, horizon_right, indexed}
use Rattle.schedule.proofs.BackLaws.{problem_wrong}
use Rattle.schedule.proofs.way_back.Goals as goal

pub returns-in_err-problem_verdict : goal.returns-in_err-problem_verdict
returns-in_err-problem_verdict c =
    let (refused, untouched) = problem_wrong _ _ _ _ _ _ _ c.problem_verdict.ensures c.in_err-problem_verdict.was in
    (search (rules, refused), untouched)

pub fill_index-requires : goal.fill_index-requires
fill_index-requires c = (search (rules, file_accepted), search rules)

pub invariant_of-task : goal.invariant_of-task
invariant_of-task c = search (rules, indexed)

pub invariant_of-asked : goal.invariant_of-asked
invariant_of-asked c = search (rules, horizon_right)
