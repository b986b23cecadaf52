-- `excluding::put_pairs` meets its contract.
-- Assumes nothing.
use Rattle.parts.proofs.ByStep.{pairs_left, lines_below, lines_fit, pairs_part}
use borrow.Author.Rules.{rules}
use Rattle.parts.proofs.excluding.put_pairs.Goals as goal

pub overflow_sub-left : goal.overflow_sub-left
overflow_sub-left c = search (rules, pairs_left)

pub put_exclusions-end-requires : goal.put_exclusions-end-requires
put_exclusions-end-requires c = (search rules, search rules, search (rules, lines_below), search rules, search (rules, lines_fit))

pub returns : goal.returns
returns c = search (rules, pairs_part)
