-- `clauses_of` meets its contract.
-- Assumes nothing.
use Rattle.checker.proofs.Widths.{few_values, few_actions, item_variable}
use borrow.Author.Rules.{rules}
use Rattle.checker.proofs.sizes.clauses_of.Goals as goal

pub pairs_below-requires : goal.pairs_below-requires
pairs_below-requires c = search (rules, few_values, item_variable)

pub pairs_below-requires-in-TwoActions : goal.pairs_below-requires-in-TwoActions
pairs_below-requires-in-TwoActions c = search (rules, few_actions)
