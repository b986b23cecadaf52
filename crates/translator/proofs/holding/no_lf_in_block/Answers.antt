-- `no_lf_in_block` meets its contract.
-- Assumes nothing.
use borrow.Author.Rules.{rules}
use Rattle.translator.proofs.ByteLaws.{no_lf-block}
use Rattle.translator.proofs.holding.no_lf_in_block.Goals as goal

pub returns : goal.returns
returns c = search (rules, no_lf-block)
