-- Assumes nothing.
use Rattle.rules.proofs.Loops.{none_yet, none_more}
use Rattle.lines.proofs.Noting.{value_found, none_found}
use borrow.Author.Rules.{rules}
use Rattle.lines.proofs.stays.given_to.Goals as goal

pub loop-i-init : goal.loop-i-init
loop-i-init c = search (rules, none_yet)

pub returns-then-sets : goal.returns-then-sets
returns-then-sets c = search (rules, value_found)

pub loop-i-preserved : goal.loop-i-preserved
loop-i-preserved c = (search rules, search (rules, none_more))

pub returns : goal.returns
returns c = search (rules, none_found)
