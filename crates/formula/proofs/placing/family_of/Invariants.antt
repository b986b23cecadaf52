-- `placing::family_of` meets its contract. The loop's invariant: clause c is in the family that is looked at, or behind it.
-- Assumes nothing.
use Rattle.formula.proofs.ByPlace.{Ranked}
use Rattle.formula.proofs.placing.family_of.Given as goal

abbrev pub invariant-loop-family : goal.invariant-loop-family
invariant-loop-family l = Ranked l.asked.task.file.now l.asked.horizon l.c l.family-index l.before
