-- Assumes nothing.
use Rattle.rules.proofs.Loops.{none_yet, none_more}
use Rattle.checker.proofs.StayLaws.{given_found, given_none, given_there}
use borrow.Author.Rules.{rules}
use Rattle.checker.proofs.stays.gives.Goals as goal

pub loop-i-init : goal.loop-i-init
loop-i-init c = search (rules, none_yet)

pub effect_is-requires : goal.effect_is-requires
effect_is-requires c = search (rules, given_there)

pub returns-then-effect_is : goal.returns-then-effect_is
returns-then-effect_is c = search (rules, given_found)

pub loop-i-preserved : goal.loop-i-preserved
loop-i-preserved c = search (rules, none_more)

pub returns : goal.returns
returns c = search (rules, given_none)
