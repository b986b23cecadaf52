-- `variables` meets its contract.
-- Assumes nothing.
use borrow.Author.Rules.{rules}
use native.Mathlib.Omega.{arith}
use Rattle.task.proofs.Bytes.{contents_long, variables_asked}
use Rattle.task.proofs.asked.variables.Goals as goal

pub body_length-requires : goal.body_length-requires
body_length-requires c = omega (arith, contents_long)

pub returns : goal.returns
returns c = search (rules, variables_asked)
