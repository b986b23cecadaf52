-- Assumes nothing.
use borrow.Author.Rules.{rules}
use Rattle.output.proofs.WordLaws.{run_none, run_stops, run_ends, run_on, digit_above, run_tenfold, run_next, run_grows, run_value, value_none}
use Rattle.output.proofs.words.digit_run.Goals as goal

pub loop-i-init : goal.loop-i-init
loop-i-init c = search (rules, run_none, value_none)

pub returns-then-not-is_digit : goal.returns-then-not-is_digit
returns-then-not-is_digit c = search (rules, run_stops)

pub overflow_mul-value : goal.overflow_mul-value
overflow_mul-value c = search (rules, run_tenfold)

pub overflow_sub-b : goal.overflow_sub-b
overflow_sub-b c = search (rules, digit_above)

pub overflow_add-value : goal.overflow_add-value
overflow_add-value c = search (rules, run_next)

pub loop-i-preserved : goal.loop-i-preserved
loop-i-preserved c = (search (rules, run_on), search (rules, run_grows), search (rules, run_value))

pub returns : goal.returns
returns c = search (rules, run_ends)
