-- Assumes nothing.
use borrow.Author.Rules.{rules}
use Rattle.translator.proofs.ByteLaws.{passed_none, block_within, block_less, passed_block, passed_behind}
use Rattle.translator.proofs.holding.line_end.Goals as goal

pub loop-end-init : goal.loop-end-init
loop-end-init c = search (rules, passed_none)

pub loop-end-smaller : goal.loop-end-smaller
loop-end-smaller c = search (rules, block_less)

pub loop-end-preserved : goal.loop-end-preserved
loop-end-preserved c = search (rules, block_within, passed_block)

pub returns : goal.returns
returns c = search (rules, passed_behind)
