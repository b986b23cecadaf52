-- `translate` meets its contract.
-- Assumes nothing.
use native.Mathlib.Omega.{arith}
use borrow.Author.Rules.{rules}
use Rattle.translator.proofs.Translating.{by_the_rules}
use Rattle.translator.proofs.translate.Goals as goal

pub returns : goal.returns
returns c =
    let whole = by_the_rules _ _ _ _ _ _ _ _ _ _ c.begin.ensures c.take_bytes-read.ensures c.finish.ensures (search rules) (search rules) (omega (arith, c.well_formed.0)) in
    record { answer = whole.0; left = whole.1 }
