-- Assumes nothing.
use borrow.Author.Rules.{rules}
use Rattle.rules.proofs.Loops.{none_yet}
use Rattle.rules.proofs.Rests.{reached_none}
use Rattle.reader.proofs.ReadActions.{action_fits, action_less, action_passed, action_fine, actions_over, actions_wrong, actions_accepted}
use Rattle.reader.proofs.actions.actions_verdict.Goals as goal

pub loop-at-init : goal.loop-at-init
loop-at-init c = search (rules, none_yet, reached_none)

pub returns-then-a-eq-MAX_ACTIONS : goal.returns-then-a-eq-MAX_ACTIONS
returns-then-a-eq-MAX_ACTIONS c = search (rules, actions_over)

pub returns-in_default : goal.returns-in_default
returns-in_default c = search (rules, actions_wrong)

pub overflow_add-at : goal.overflow_add-at
overflow_add-at c = search (rules, action_fits)

pub loop-at-smaller : goal.loop-at-smaller
loop-at-smaller c = search (rules, action_less)

pub loop-at-preserved : goal.loop-at-preserved
loop-at-preserved c = search (rules, action_passed, action_fine)

pub returns : goal.returns
returns c = search (rules, actions_accepted)
