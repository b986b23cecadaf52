-- Assumes nothing.
use Rattle.checker.proofs.ItemLaws.{pair_action, pair_again, pair_all, pair_fails, pair_fits, pair_idle, pair_step, pair_value, pair_variable, pairs_yet, step_low}
use borrow.Author.Rules.{rules}
use Rattle.checker.proofs.families.pair_clauses.Goals as goal

pub pair_count-count-requires : goal.pair_count-count-requires
pair_count-count-requires c = search (rules, pair_action)

pub acts-requires : goal.acts-requires
acts-requires c = search (rules, pair_action, step_low)

pub overflow_add-result : goal.overflow_add-result
overflow_add-result c = search (rules, pair_fits)

pub returns-then-not-acts : goal.returns-then-not-acts
returns-then-not-acts c = search (rules, pair_idle)

pub told_at-told-requires : goal.told_at-told-requires
told_at-told-requires c = search (rules, pair_step)

pub loop-i-init : goal.loop-i-init
loop-i-init c = search (rules, pairs_yet)

pub nth_pair-pair-requires : goal.nth_pair-pair-requires
nth_pair-pair-requires c = search (rules, pair_action)

pub pair_holds-requires : goal.pair_holds-requires
pair_holds-requires c = (search (rules, pair_step), search (rules, pair_variable), search (rules, pair_value))

pub overflow_add-result-then-not-pair_holds : goal.overflow_add-result-then-not-pair_holds
overflow_add-result-then-not-pair_holds c = search (rules, pair_fits)

pub returns-then-not-pair_holds : goal.returns-then-not-pair_holds
returns-then-not-pair_holds c = search (rules, pair_fails)

pub loop-i-preserved : goal.loop-i-preserved
loop-i-preserved c = search (rules, pair_again)

pub overflow_add-result-2 : goal.overflow_add-result-2
overflow_add-result-2 c = search (rules, pair_fits)

pub returns : goal.returns
returns c = search (rules, pair_all)
