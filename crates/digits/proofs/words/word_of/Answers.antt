-- Assumes nothing.
use borrow.Author.Rules.{rules}
use Rattle.digits.proofs.Packing.{packing_start, packing_more, packing_end}
use Rattle.digits.proofs.words.word_of.Goals as goal

pub loop-rest-init : goal.loop-rest-init
loop-rest-init c = search (rules, packing_start)

pub loop-rest-preserved : goal.loop-rest-preserved
loop-rest-preserved c = search (rules, packing_more)

pub returns : goal.returns
returns c = search (rules, packing_end)
