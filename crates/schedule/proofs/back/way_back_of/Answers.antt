-- `way_back_of` meets its contract.
-- Assumes nothing.
use borrow.Author.Rules.{rules}
use Rattle.schedule.proofs.BackLaws.{too_little, given_fits, truth_fits, entries_fit, schedule_wrong, can_be_carried, schedule_right}
use Rattle.schedule.proofs.back.way_back_of.Goals as goal

pub returns-then-not-enough : goal.returns-then-not-enough
returns-then-not-enough c = too_little _ _ _ _ _ (search rules) (search rules) _ c.enough.ensures (search rules)

pub schedule_verdict-requires : goal.schedule_verdict-requires
schedule_verdict-requires c = search (rules, entries_fit)

pub returns-in_err-schedule_verdict : goal.returns-in_err-schedule_verdict
returns-in_err-schedule_verdict c =
    let (refused, untouched) = schedule_wrong _ _ _ _ _ (search rules) (search rules) _ c.enough.ensures (search rules) _ c.schedule_verdict.ensures _ c.in_err-schedule_verdict.was in
    (search (rules, refused), untouched)

pub give_all-requires : goal.give_all-requires
give_all-requires c = search (rules, given_fits)

pub give_truth-requires : goal.give_truth-requires
give_truth-requires c = (search (rules, entries_fit), can_be_carried _ _ _ _ c.schedule_verdict.ensures (search rules), truth_fits _ _ _ _ _ _ c.enough.ensures (search rules))

pub returns : goal.returns
returns c = schedule_right _ _ _ _ _ (search rules) (search rules) _ c.enough.ensures (search rules) _ c.schedule_verdict.ensures _ _ (search rules) (search rules) (search rules)
