-- `start_value` meets its contract.
-- Assumes nothing.
use borrow.Author.Rules.{rules}
use native.Mathlib.Omega.{arith}
use Rattle.task.proofs.Bytes.{contents_long, start_there, start_asked_lem}
use Rattle.task.proofs.asked.start_value.Goals as goal

pub body_start-requires : goal.body_start-requires
body_start-requires c = omega (arith, contents_long)

pub byte_behind-requires : goal.byte_behind-requires
byte_behind-requires c = search (rules, start_there)

pub returns : goal.returns
returns c = search (rules, start_asked_lem)
