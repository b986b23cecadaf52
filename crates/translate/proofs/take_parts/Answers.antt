-- Assumes nothing.
use Rattle.translate.proofs.Prints.{some_none, some_more, some_few, part_of}
use borrow.Author.Rules.{rules}
use Rattle.translate.proofs.take_parts.Goals as goal

pub loop-init : goal.loop-init
loop-init c = search (rules, some_none)

pub returns-then-n-eq0 : goal.returns-then-n-eq0
returns-then-n-eq0 c = search (rules, some_few)

pub slice_bounds-take_bytes-end : goal.slice_bounds-take_bytes-end
slice_bounds-take_bytes-end c = part_of _ _ (search rules)

pub loop-preserved : goal.loop-preserved
loop-preserved c = (search (rules, some_more), search rules, search rules, search rules, search rules, search rules, search rules)

pub returns : goal.returns
returns c = search (rules, some_few)
