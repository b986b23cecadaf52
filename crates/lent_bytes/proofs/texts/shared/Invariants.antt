-- `shared` meets its contract: as far as the loop has come all bytes are shared, and the rest decides.
-- Assumes nothing.
use mathlib.Core.Path.{◌≡◌}
use Prim.Native.Nat.{◌+◌}
use lib.ListN.{drop}
use Rattle.rules.specs.Lines.{agree}
use Rattle.lent_bytes.proofs.texts.shared.Given as goal

abbrev pub invariant-loop-i : goal.invariant-loop-i
invariant-loop-i l = l.i + agree (drop l.i l.line) (drop l.i l.text) ≡ agree l.line l.text
