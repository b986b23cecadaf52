-- `following::put_effects` meets its contract. The loop's invariant: the lines so far are written.
-- Assumes nothing.
use Rattle.parts.proofs.InTurn.{LinesPut, effect_from}
use Rattle.parts.proofs.following.put_effects.Given as goal

abbrev pub invariant-loop-lines : goal.invariant-loop-lines
invariant-loop-lines l = LinesPut l.asked.task.file.now l.asked.horizon (effect_from l.s l.a l.i) l.initial.out l.at l.left l.lines l.out l.end
