-- `print_formula` meets its contract.
-- Assumes nothing.
use Rattle.clauses.proofs.Prefix.{prefix_long, header_refused, header_here, with_header, with_header_fits}
use borrow.Author.Rules.{rules}
use Rattle.clauses.proofs.print_formula.Goals as goal

pub returns-in_default : goal.returns-in_default
returns-in_default c = search (rules, header_refused, c.in_default.is)

pub slice_bounds-write_all-end : goal.slice_bounds-write_all-end
slice_bounds-write_all-end c = search (rules, header_here)

pub slice_bounds-write_all-end-2 : goal.slice_bounds-write_all-end-2
slice_bounds-write_all-end-2 c = search (rules, prefix_long, header_here)

pub overflow_add-result : goal.overflow_add-result
overflow_add-result c = search (rules, with_header_fits)

pub returns : goal.returns
returns c = search (rules, with_header)
