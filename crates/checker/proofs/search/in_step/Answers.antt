-- Assumes nothing.
use Rattle.task.proofs.Families.{family_below}
use Rattle.checker.proofs.Moving.{come_here, item_fits, item_found, item_passed, item_there, items_done}
use borrow.Author.Rules.{rules}
use Rattle.checker.proofs.search.in_step.Goals as goal

pub clauses_of-requires : goal.clauses_of-requires
clauses_of-requires c = search (rules, item_there)

pub overflow_add-next : goal.overflow_add-next
overflow_add-next c = search (rules, item_fits, family_below)

pub in_item-c-requires : goal.in_item-c-requires
in_item-c-requires c = search (rules, come_here, family_below)

pub returns-then-c-next : goal.returns-then-c-next
returns-then-c-next c = search (rules, item_found, family_below)

pub loop-i-preserved : goal.loop-i-preserved
loop-i-preserved c = search (rules, item_passed, family_below)

pub returns : goal.returns
returns c = search (rules, items_done, family_below)
