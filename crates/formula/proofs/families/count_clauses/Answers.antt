-- Assumes nothing.
use borrow.Author.Rules.{rules}
use Rattle.formula.proofs.Counted.{before_none, sum_fits, sum_next, sum_all}
use Rattle.formula.proofs.families.count_clauses.Goals as goal

pub loop-family-init : goal.loop-family-init
loop-family-init c = search (rules, before_none)

pub overflow_add-sum : goal.overflow_add-sum
overflow_add-sum c = search (rules, sum_fits)

pub loop-family-preserved : goal.loop-family-preserved
loop-family-preserved c = search (rules, sum_next)

pub returns : goal.returns
returns c = search (rules, sum_all)
