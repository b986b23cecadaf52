-- Assumes nothing.
use borrow.Author.Rules.{rules}
use Rattle.digits.proofs.Writing.{end_behind, unwritten_start, unwritten_before, unwritten_more, unwritten_end}
use Rattle.digits.proofs.put.Goals as goal

pub overflow_sub-i : goal.overflow_sub-i
overflow_sub-i c = search (rules, end_behind)

pub loop-rest-init : goal.loop-rest-init
loop-rest-init c = search (rules, unwritten_start)

pub overflow_sub-i-in-loop-rest : goal.overflow_sub-i-in-loop-rest
overflow_sub-i-in-loop-rest c = search (rules, unwritten_before)

pub loop-rest-preserved : goal.loop-rest-preserved
loop-rest-preserved c = search (rules, unwritten_more)

pub returns : goal.returns
returns c = search (rules, unwritten_end)
