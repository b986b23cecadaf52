-- `fill_actions` meets its contract. The loop's invariant: the rows before a are written, and the reading stands before action a.
-- Assumes nothing.
use Rattle.task.proofs.Rows.{ActionsFilled}
use Rattle.task.proofs.filling.fill_actions.Given as goal

abbrev pub invariant-loop-a : goal.invariant-loop-a
invariant-loop-a l = ActionsFilled l.start l.actions l.initial.out l.out l.a l.at l.preconditions l.effects
