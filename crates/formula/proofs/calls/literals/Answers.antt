-- `calls::literals` meets its contract.
-- Assumes nothing.
use borrow.Author.Rules.{rules}
use Rattle.task.proofs.Stated.{file_accepted, indexed, horizon_right}
use Rattle.formula.proofs.Answered.{problem_said, problem_left}
use Rattle.formula.proofs.calls.literals.Goals as goal

pub returns-in_err-problem_verdict : goal.returns-in_err-problem_verdict
returns-in_err-problem_verdict c = (search (rules, problem_said), search (rules, problem_left))

pub fill_index-requires : goal.fill_index-requires
fill_index-requires c = search (rules, file_accepted)

pub invariant_of-task : goal.invariant_of-task
invariant_of-task c = search (rules, indexed)

pub invariant_of-asked : goal.invariant_of-asked
invariant_of-asked c = search (rules, horizon_right)
