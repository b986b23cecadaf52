-- `take_piece` meets its contract: each answer by the rule that decides it.
-- Assumes nothing.
use borrow.Author.Rules.{rules}
use Rattle.output.proofs.TrialLaws.{reached_fits, try_empty, piece_broken, piece_closed, piece_over, piece_zero, piece_before, piece_new}
use Rattle.output.proofs.numbers.take_piece.Goals as goal

pub returns-then-piece-eq0 : goal.returns-then-piece-eq0
returns-then-piece-eq0 c = search (rules, try_empty)

pub overflow_add-result : goal.overflow_add-result
overflow_add-result c = search (rules, reached_fits)

pub returns-then-closed : goal.returns-then-closed
returns-then-closed c = search (rules, piece_closed)

pub returns-then-highest-number : goal.returns-then-highest-number
returns-then-highest-number c = search (rules, piece_over)

pub returns-then-number-eq0 : goal.returns-then-number-eq0
returns-then-number-eq0 c = search (rules, piece_zero)

pub returns-then-is_set : goal.returns-then-is_set
returns-then-is_set c = search (rules, piece_before)

pub returns-in-Err : goal.returns-in-Err
returns-in-Err c = search (rules, piece_broken)

pub returns : goal.returns
returns c = search (rules, piece_new)
