-- `problem_verdict` meets its contract.
-- Assumes nothing.
use borrow.Author.Rules.{rules}
use Rattle.task.proofs.Stated.{file_wrong, horizon_wrong, problem_right}
use Rattle.task.proofs.problem.problem_verdict.Goals as goal

pub returns-in_err-file_verdict : goal.returns-in_err-file_verdict
returns-in_err-file_verdict c = search (rules, file_wrong)

pub returns-then-horizon-gt-MAX_HORIZON : goal.returns-then-horizon-gt-MAX_HORIZON
returns-then-horizon-gt-MAX_HORIZON c = search (rules, horizon_wrong)

pub returns : goal.returns
returns c = search (rules, problem_right)
