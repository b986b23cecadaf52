-- Assumes nothing.
use borrow.Author.Rules.{rules}
use Rattle.formula.proofs.Supported.{put_none, put_room, put_next, put_all}
use Rattle.formula.proofs.supporters.put_supporters.Goals as goal

pub loop-a-init : goal.loop-a-init
loop-a-init c = search (rules, put_none)

pub put_supporter-at-requires : goal.put_supporter-at-requires
put_supporter-at-requires c = search (rules, put_room)

pub loop-a-preserved : goal.loop-a-preserved
loop-a-preserved c = search (rules, put_next)

pub returns : goal.returns
returns c = search (rules, put_all)
