-- Assumes nothing.
use borrow.Author.Rules.{rules}
use Rattle.formula.proofs.Spelled.{values_all, values_room, values_none, values_more}
use Rattle.formula.proofs.clauses.put_all_values.Goals as goal

pub loop-v-init : goal.loop-v-init
loop-v-init c = (search rules, search (rules, values_room), search rules, search (rules, values_none))

pub loop-v-preserved : goal.loop-v-preserved
loop-v-preserved c = (search rules, search rules, search rules, search (rules, values_more))

pub returns : goal.returns
returns c = search (rules, values_all)
