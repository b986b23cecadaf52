-- `list_in_order` meets its contract.
-- Assumes nothing.
use borrow.Author.Rules.{rules}
use Rattle.reader.proofs.ReadChecks.{many_pairs, few_pairs}
use Rattle.reader.proofs.checks.list_in_order.Goals as goal

pub returns-then-count-gt-MAX_PAIRS : goal.returns-then-count-gt-MAX_PAIRS
returns-then-count-gt-MAX_PAIRS c = search (rules, many_pairs)

pub returns : goal.returns
returns c = search (rules, few_pairs)
