-- Assumes nothing.
use Rattle.checker.proofs.ItemLaws.{pairs_yet}
use Rattle.checker.proofs.StayLaws.{stay_again, stay_all, stay_fails, stay_fits, stay_item, stay_step, stay_there}
use borrow.Author.Rules.{rules}
use Rattle.checker.proofs.stays.stay_clauses.Goals as goal

pub size-values-requires : goal.size-values-requires
size-values-requires c = search (rules, stay_item)

pub loop-v-init : goal.loop-v-init
loop-v-init c = search (rules, pairs_yet)

pub changes_alone-requires : goal.changes_alone-requires
changes_alone-requires c = search (rules, stay_step, stay_item, stay_there)

pub overflow_add-result : goal.overflow_add-result
overflow_add-result c = search (rules, stay_fits)

pub returns-then-changes_alone : goal.returns-then-changes_alone
returns-then-changes_alone c = search (rules, stay_fails)

pub loop-v-preserved : goal.loop-v-preserved
loop-v-preserved c = search (rules, stay_again)

pub overflow_add-result-2 : goal.overflow_add-result-2
overflow_add-result-2 c = search (rules, stay_fits)

pub returns : goal.returns
returns c = search (rules, stay_all)
