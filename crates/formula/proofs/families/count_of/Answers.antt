-- `families::count_of` meets its contract.
-- Assumes nothing.
use borrow.Author.Rules.{rules}
use Rattle.formula.proofs.Counted.{count_fits, count_made}
use Rattle.formula.proofs.families.count_of.Goals as goal

pub overflow_mul-result : goal.overflow_mul-result
overflow_mul-result c = search (rules, count_fits)

pub returns : goal.returns
returns c = search (rules, count_made)
