-- Assumes nothing.
use Rattle.clauses.proofs.Prefix.{prefix_long, lines_refused, lines_within, next_below, next_fits, next_less}
use borrow.Author.Rules.{rules}
use Rattle.clauses.proofs.print_lines.Goals as goal

pub returns-in_default : goal.returns-in_default
returns-in_default c = search (rules, lines_refused, c.in_default.is)

pub slice_bounds-write_all-end : goal.slice_bounds-write_all-end
slice_bounds-write_all-end c = search (rules, lines_within)

pub slice_bounds-write_all-end-in-loop-c : goal.slice_bounds-write_all-end-in-loop-c
slice_bounds-write_all-end-in-loop-c c = search (rules, prefix_long, lines_within)

pub overflow_add-c : goal.overflow_add-c
overflow_add-c c = search (rules, next_fits)

pub loop-c-smaller : goal.loop-c-smaller
loop-c-smaller c = search (rules, next_less)

pub loop-c-preserved : goal.loop-c-preserved
loop-c-preserved c = (search (rules, next_below), search rules, search rules)
