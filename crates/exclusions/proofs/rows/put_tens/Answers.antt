-- Assumes nothing.
use Rattle.exclusions.proofs.Rowing.{signs_fit, tens_start, tens_least, tens_most, tens_room, tens_more}
use borrow.Author.Rules.{rules}
use Rattle.exclusions.proofs.rows.put_tens.Goals as goal

pub overflow_add-beside : goal.overflow_add-beside
overflow_add-beside c = search (rules, signs_fit)

pub loop-i-init : goal.loop-i-init
loop-i-init c = search (rules, tens_start)

pub put_ten-end-requires : goal.put_ten-end-requires
put_ten-end-requires c = search (rules, tens_least, tens_most, tens_room)

pub loop-i-preserved : goal.loop-i-preserved
loop-i-preserved c = search (rules, tens_more)
