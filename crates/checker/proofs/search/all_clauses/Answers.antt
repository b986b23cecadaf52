-- Assumes nothing.
use Rattle.checker.proofs.Moving.{width_at, count_all, count_fits, count_more, count_yet}
use borrow.Author.Rules.{rules}
use Rattle.checker.proofs.search.all_clauses.Goals as goal

pub loop-family-init : goal.loop-family-init
loop-family-init c = search (rules, count_yet)

pub overflow_add-count : goal.overflow_add-count
overflow_add-count c = search (rules, count_fits, width_at)

pub loop-family-preserved : goal.loop-family-preserved
loop-family-preserved c = search (rules, count_more, width_at)

pub returns : goal.returns
returns c = search (rules, count_all)
