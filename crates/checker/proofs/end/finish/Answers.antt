-- `finish` meets its contract.
-- Assumes nothing.
use Rattle.task.proofs.Stated.{file_accepted, horizon_right, indexed}
use Rattle.checker.proofs.EndLaws.{early_kept, end_accepted, end_early, end_same, entries_room, late_kept, late_stated}
use borrow.Author.Rules.{rules}
use Rattle.checker.proofs.end.finish.Goals as goal

pub returns-in_err-problem_verdict-clause-value : goal.returns-in_err-problem_verdict-clause-value
returns-in_err-problem_verdict-clause-value c = search (rules, end_early)

pub returns-in_err-problem_verdict-clause-entries_after : goal.returns-in_err-problem_verdict-clause-entries_after
returns-in_err-problem_verdict-clause-entries_after c = search (rules, early_kept)

pub fill_index-requires : goal.fill_index-requires
fill_index-requires c = (search (rules, file_accepted), search rules)

pub invariant_of-task : goal.invariant_of-task
invariant_of-task c = search (rules, indexed)

pub invariant_of-asked : goal.invariant_of-asked
invariant_of-asked c = search (rules, horizon_right)

pub returns-in_err-end_verdict-clause-value : goal.returns-in_err-end_verdict-clause-value
returns-in_err-end_verdict-clause-value c = search (rules, end_same)

pub returns-in_err-end_verdict-clause-entries_after : goal.returns-in_err-end_verdict-clause-entries_after
returns-in_err-end_verdict-clause-entries_after c = search (rules, late_kept)

pub write_schedule-requires : goal.write_schedule-requires
write_schedule-requires c = search (rules, entries_room)

pub returns-clause-value : goal.returns-clause-value
returns-clause-value c = search (rules, end_accepted)

pub returns-clause-entries_after : goal.returns-clause-entries_after
returns-clause-entries_after c = search (rules, late_stated)
