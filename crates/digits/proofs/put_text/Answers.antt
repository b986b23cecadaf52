-- `digits::put_text` meets its contract.
-- Assumes nothing.
use borrow.Author.Rules.{rules}
use Rattle.digits.proofs.PartBehindPart.{written_none, text_more, text_within, text_is, text_behind_lem}
use Rattle.digits.proofs.put_text.Goals as goal

pub loop-b-init : goal.loop-b-init
loop-b-init c = search (rules, written_none)

pub put_byte-end-requires : goal.put_byte-end-requires
put_byte-end-requires c = search (rules, text_within)

pub loop-b-preserved : goal.loop-b-preserved
loop-b-preserved c = search (rules, text_more)

pub returns : goal.returns
returns c = search (rules, text_is, text_behind_lem)
