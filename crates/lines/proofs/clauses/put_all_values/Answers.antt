-- Assumes nothing.
use Rattle.lines.proofs.ByPlace.{values_start, values_more, values_end}
use borrow.Author.Rules.{rules}
use Rattle.lines.proofs.clauses.put_all_values.Goals as goal

pub loop-v-init : goal.loop-v-init
loop-v-init c = search (rules, values_start)

pub loop-v-preserved : goal.loop-v-preserved
loop-v-preserved c = search (rules, values_more)

pub returns-clause-written : goal.returns-clause-written
returns-clause-written c = search (rules, values_end)
