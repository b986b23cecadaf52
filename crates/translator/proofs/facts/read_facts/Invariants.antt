-- `read_facts` meets its contract: what is left of the bytes comes to the same for every reading.
-- Assumes nothing.
use mathlib.Core.Path.{◌≡◌}
use Prim.Native.Nat.{◌+◌}
use Rattle.translator.specs.Facts.{FactsRead}
use Rattle.translator.proofs.facts.read_facts.Given as goal

abbrev pub invariant-loop : goal.invariant-loop
invariant-loop l = (l.facts.left + l.counter ≡ l.end) × FactsRead l.bytes l.initial.facts l.initial.line l.facts l.line
