-- `digits::put` meets its contract. The loop's invariant: with the digits of rest, which end at i, the writing is done; the measure is rest.
-- Assumes nothing.
use Rattle.digits.proofs.Writing.{Unwritten}
use Rattle.digits.proofs.put.Given as goal

abbrev pub invariant-loop-rest : goal.invariant-loop-rest
invariant-loop-rest l = Unwritten l.initial.out l.at l.m l.out l.i l.rest

abbrev pub decreases-loop-rest : goal.decreases-loop-rest
decreases-loop-rest l = l.rest
