-- `exclusions::texts::digits_of` meets its contract.
-- Assumes nothing.
use Rattle.exclusions.proofs.HeadTail.{five_digits, four_digits, three_digits_lem}
use borrow.Author.Rules.{rules}
use Rattle.exclusions.proofs.texts.digits_of.Goals as goal

pub returns-then-q-ge-FIVE_DIGITS : goal.returns-then-q-ge-FIVE_DIGITS
returns-then-q-ge-FIVE_DIGITS c = search (rules, five_digits)

pub returns-then-q-ge-FOUR_DIGITS : goal.returns-then-q-ge-FOUR_DIGITS
returns-then-q-ge-FOUR_DIGITS c = search (rules, four_digits)

pub returns : goal.returns
returns c = search (rules, three_digits_lem)
