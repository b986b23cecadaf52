-- `excluding::put_two_actions` meets its contract.
-- Assumes nothing.
use Rattle.parts.proofs.ByStep.{actions_few, actions_most, actions_part}
use borrow.Author.Rules.{rules}
use Rattle.parts.proofs.excluding.put_two_actions.Goals as goal

pub put_pairs-requires : goal.put_pairs-requires
put_pairs-requires c = (search rules, search rules, search (rules, actions_few), search (rules, actions_most), search rules)

pub returns : goal.returns
returns c = search (rules, actions_part)
