-- `fill_variables` meets its contract. The loop's invariant: the rows before x are written.
-- Assumes nothing.
use Rattle.task.proofs.Rows.{VariablesFilled}
use Rattle.task.proofs.filling.fill_variables.Given as goal

abbrev pub invariant-loop-x : goal.invariant-loop-x
invariant-loop-x l = VariablesFilled l.sizes l.initial.out l.out l.x l.values l.pairs
