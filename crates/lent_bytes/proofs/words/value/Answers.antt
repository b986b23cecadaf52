-- Assumes nothing.
use borrow.Author.Rules.{rules}
use Rattle.lent_bytes.proofs.WordLaws.{value_grows, value_on, value_done}
use Rattle.lent_bytes.proofs.words.value.Goals as goal

pub loop-b-preserved : goal.loop-b-preserved
loop-b-preserved c = search (rules, value_grows, value_on)

pub returns : goal.returns
returns c = search (rules, value_done)
