-- Assumes nothing.
use Rattle.parts.proofs.InTurn.{lines_start, lines_more, effect_short, effect_part}
use borrow.Author.Rules.{rules}
use Rattle.parts.proofs.following.put_effects.Goals as goal

pub loop-lines-init : goal.loop-lines-init
loop-lines-init c = search (rules, lines_start)

pub returns-then-out-end-lt-PAIR_ROOM : goal.returns-then-out-end-lt-PAIR_ROOM
returns-then-out-end-lt-PAIR_ROOM c = search (rules, effect_short)

pub loop-lines-preserved : goal.loop-lines-preserved
loop-lines-preserved c = search (rules, lines_more)

pub returns : goal.returns
returns c = search (rules, effect_part)
