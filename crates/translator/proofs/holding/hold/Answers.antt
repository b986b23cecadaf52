-- Assumes nothing.
use Prim.Native.Nat.{◌+◌}
use native.Mathlib.Omega.{arith}
use borrow.Author.Rules.{rules}
use Rattle.translator.proofs.ByteLaws.{rest_start, rest_held, up_to-lf, up_to-passed}
use Rattle.translator.proofs.holding.hold.Goals as goal

pub loop-i-init : goal.loop-i-init
loop-i-init c = search (rules, rest_start)

pub returns-then-b-eq10 : goal.returns-then-b-eq10
returns-then-b-eq10 c = search (rules, up_to-lf)

pub loop-i-preserved : goal.loop-i-preserved
loop-i-preserved c = search (rules, rest_held)

pub returns : goal.returns
returns c =
    up_to-passed c.args.bytes.now c.args.at c.args.held c.args.line.now (c.args.at + c.loop-i.i) (c.args.held + c.loop-i.i) c.loop-i.line c.loop-i.invariant
    (c.args.at + c.min-count.result) c.line_end.result (omega arith) (omega arith) (omega arith) c.line_end.ensures
