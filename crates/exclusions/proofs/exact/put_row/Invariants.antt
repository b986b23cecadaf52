-- `exclusions::exact::put_row` meets its contract. The loop's invariant: i lines of the row are written.
-- Assumes nothing.
use Rattle.exclusions.proofs.Rowing.{RowPut}
use Rattle.exclusions.proofs.exact.put_row.Given as goal

abbrev pub invariant-loop-i : goal.invariant-loop-i
invariant-loop-i l = RowPut l.initial.out l.at l.p l.q l.n l.out l.end l.i
