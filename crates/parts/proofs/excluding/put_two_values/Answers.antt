-- `excluding::put_two_values` meets its contract.
-- Assumes nothing.
use Rattle.parts.proofs.ByStep.{values_few, values_most, values_part}
use borrow.Author.Rules.{rules}
use Rattle.parts.proofs.excluding.put_two_values.Goals as goal

pub put_pairs-requires : goal.put_pairs-requires
put_pairs-requires c = (search rules, search rules, search (rules, values_few), search (rules, values_most), search rules)

pub returns : goal.returns
returns c = search (rules, values_part)
