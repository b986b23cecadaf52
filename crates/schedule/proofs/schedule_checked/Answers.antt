-- `schedule_checked` meets its contract.
-- Assumes nothing.
use borrow.Author.Rules.{rules}
use Rattle.task.proofs.Stated.{file_accepted, horizon_right, indexed}
use Rattle.schedule.proofs.BackLaws.{checked_problem, checked_room, checked_schedule}
use Rattle.schedule.proofs.schedule_checked.Goals as goal

pub returns-in_err-problem_verdict : goal.returns-in_err-problem_verdict
returns-in_err-problem_verdict c = search (rules, checked_problem)

pub returns-then-entries-horizon : goal.returns-then-entries-horizon
returns-then-entries-horizon c = search (rules, checked_room)

pub fill_index-requires : goal.fill_index-requires
fill_index-requires c = (search (rules, file_accepted), search rules)

pub invariant_of-task : goal.invariant_of-task
invariant_of-task c = search (rules, indexed)

pub invariant_of-asked : goal.invariant_of-asked
invariant_of-asked c = search (rules, horizon_right)

pub returns : goal.returns
returns c = search (rules, checked_schedule)
