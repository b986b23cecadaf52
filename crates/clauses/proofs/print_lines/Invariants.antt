-- `print_lines` meets its contract. The loop's invariant: no line behind the last is asked for, and the room still takes any line.
-- Assumes nothing.
use Prim.Native.Nat.{◌-◌, ◌≤◌}
use mathlib.Core.Path.{◌≡◌}
use lib.ListN.{length}
use Rattle.lines.specs.Written.{line_room}
use Rattle.clauses.proofs.print_lines.Given as goal

abbrev pub invariant-loop-c : goal.invariant-loop-c
invariant-loop-c l = (l.c ≤ l.all) × (length l.out ≡ length l.initial.out) × (line_room ≤ length l.out)

abbrev pub decreases-loop-c : goal.decreases-loop-c
decreases-loop-c l = l.all - l.c
