-- Assumes nothing.
use borrow.Author.Rules.{rules}
use Rattle.lent_bytes.proofs.SameLaws.{shared_all, shared_differ, shared_on}
use Rattle.lent_bytes.proofs.texts.shared.Goals as goal

pub returns-then-line-i : goal.returns-then-line-i
returns-then-line-i c = search (rules, shared_differ)

pub loop-i-preserved : goal.loop-i-preserved
loop-i-preserved c = search (rules, shared_on)

pub returns : goal.returns
returns c = search (rules, shared_all)
