-- `is_fact` meets its contract.
-- Assumes nothing.
use borrow.Author.Rules.{rules}
use Rattle.textlines.proofs.FactLaws.{one_word_only, no_variable, by_value}
use Rattle.textlines.proofs.is_fact.Goals as goal

pub returns-then-end-line : goal.returns-then-end-line
returns-then-end-line c = search (rules, one_word_only)

pub returns-then-not-is_plain : goal.returns-then-not-is_plain
returns-then-not-is_plain c = search (rules, no_variable)

pub returns : goal.returns
returns c = search (rules, by_value)
