-- `exclusions::rows::put_tens` meets its contract. The loop's invariant: i lines of the row are written, and what every line begins with is at hand.
-- Assumes nothing.
use Prim.Native.Nat.{◌-◌}
use Rattle.exclusions.proofs.Rowing.{TensPut}
use Rattle.exclusions.proofs.rows.put_tens.Given as goal

abbrev pub invariant-loop-i : goal.invariant-loop-i
invariant-loop-i l = TensPut l.initial.out l.at l.p l.q l.n l.head l.beside l.out l.end l.i

abbrev pub decreases-loop-i : goal.decreases-loop-i
decreases-loop-i l = l.n - l.i
