-- `contents_verdict` meets its contract. The loop's invariant: none of the rows before this one breaks the rule.
-- Assumes nothing.
use mathlib.Core.Path.{◌≡◌}
use Prim.Native.Nat.{◌≤◌}
use lib.ListN.{length}
use Rattle.rules.specs.Counting.{first}
use Rattle.rules.specs.Limits.{contents_bytes, max_file}
use Rattle.rules.specs.File.{row_at_fault}
use Rattle.reader.proofs.contents.contents_verdict.Given as goal

abbrev pub invariant-loop-row : goal.invariant-loop-row
invariant-loop-row l = (contents_bytes ≤ length l.file) × (length l.file ≤ max_file) × (first l.row (row_at_fault l.file) ≡ l.row)
