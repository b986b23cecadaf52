-- `digits::words::word_of` meets its contract. The loop's invariant: the digits of rest below w are the digits of m below high; the measure is rest.
-- Assumes nothing.
use Rattle.digits.proofs.Packing.{Packing}
use Rattle.digits.proofs.words.word_of.Given as goal

abbrev pub invariant-loop-rest : goal.invariant-loop-rest
invariant-loop-rest l = Packing l.m l.high l.w l.rest

abbrev pub decreases-loop-rest : goal.decreases-loop-rest
decreases-loop-rest l = l.rest
