-- `bodies::in_order::place_of` meets its contract. The loop's invariant: none of the pairs before i has a larger variable.
-- Assumes nothing.
use Rattle.bodies.proofs.InOrder.{NoneLarger}
use Rattle.bodies.proofs.in_order.place_of.Given as goal

abbrev pub invariant-loop-i : goal.invariant-loop-i
invariant-loop-i l = NoneLarger l.s l.at l.variable l.i
