-- `fill_index` meets its contract.
-- Assumes nothing.
use borrow.Author.Rules.{rules}
use native.Mathlib.Omega.{arith}
use Rattle.task.proofs.Bytes.{contents_ok, contents_long, actions_room_lem}
use Rattle.task.proofs.Fitting.{variables_fit, actions_fit_lem, count_fits}
use Rattle.task.proofs.Rows.{index_filled}
use Rattle.task.proofs.filling.fill_index.Goals as goal

pub row_body-actions-requires : goal.row_body-actions-requires
row_body-actions-requires c = search (rules, contents_ok)

pub row_body-requires : goal.row_body-requires
row_body-requires c = search (rules, contents_ok)

pub put_variables-requires : goal.put_variables-requires
put_variables-requires c = search (rules, variables_fit)

pub body_start-requires : goal.body_start-requires
body_start-requires c = omega (arith, contents_long)

pub put_actions-requires : goal.put_actions-requires
put_actions-requires c = search (rules, actions_fit_lem, actions_room_lem)

pub overflow_cast-index : goal.overflow_cast-index
overflow_cast-index c = search (rules, count_fits)

pub returns : goal.returns
returns c = search (rules, index_filled)
