-- `digits::put_text` meets its contract. The loop's invariant: the bytes so far are written.
-- Assumes nothing.
use lib.ListN.{take}
use Rattle.digits.proofs.PartBehindPart.{Written}
use Rattle.digits.proofs.put_text.Given as goal

abbrev pub invariant-loop-b : goal.invariant-loop-b
invariant-loop-b l = Written l.initial.out l.at (take l.b-index l.text) l.out l.end
