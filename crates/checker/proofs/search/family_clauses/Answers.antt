-- `family_clauses` meets its contract.
-- Assumes nothing.
use Rattle.task.proofs.Families.{family_below}
use Rattle.checker.proofs.Moving.{product_few, product_is}
use borrow.Author.Rules.{rules}
use Rattle.checker.proofs.search.family_clauses.Goals as goal

pub overflow_mul-result : goal.overflow_mul-result
overflow_mul-result c = search (rules, product_few, family_below)

pub returns : goal.returns
returns c = search (rules, product_is)
