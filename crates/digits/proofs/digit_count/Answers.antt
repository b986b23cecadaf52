-- `digits::digit_count` meets its contract.
-- Assumes nothing.
use borrow.Author.Rules.{rules}
use Rattle.digits.proofs.Writing.{one_digit, more_digits}
use Rattle.digits.proofs.digit_count.Goals as goal

pub returns-then-m-lt10 : goal.returns-then-m-lt10
returns-then-m-lt10 c = search (rules, one_digit)

pub returns : goal.returns
returns c = search (rules, more_digits)
