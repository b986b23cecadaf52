-- Assumes nothing.
use Rattle.checker.proofs.Moving.{reached_at, width_at, lowest_at, families_done, family_fits, family_found, family_passed, start_here}
use borrow.Author.Rules.{rules}
use Rattle.checker.proofs.search.lowest_unmet.Goals as goal

pub loop-family-init : goal.loop-family-init
loop-family-init c = search (rules, start_here)

pub overflow_add-next : goal.overflow_add-next
overflow_add-next c = search (rules, family_fits, width_at)

pub in_family-c-requires : goal.in_family-c-requires
in_family-c-requires c = search (rules, reached_at)

pub returns-then-c-next : goal.returns-then-c-next
returns-then-c-next c = search (rules, family_found, width_at, lowest_at)

pub loop-family-preserved : goal.loop-family-preserved
loop-family-preserved c = search (rules, family_passed, width_at, lowest_at)

pub returns : goal.returns
returns c = search (rules, families_done)
