-- `schedule_text` meets its contract. The loop's invariant: the lines of the first entries are written, in no more room than they may need.
-- Assumes nothing.
use Rattle.printing.proofs.Texts.{Lines}
use Rattle.printing.proofs.schedule_text.Given as goal

abbrev pub invariant-loop-entry : goal.invariant-loop-entry
invariant-loop-entry l = Lines l.initial.out l.entries l.out l.at l.entry-index
