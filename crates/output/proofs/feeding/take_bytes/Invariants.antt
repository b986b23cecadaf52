-- `take_bytes` meets its contract: what is left of the bytes, fed from where the loop is, comes to all of them fed.
-- Assumes nothing.
use mathlib.Core.Path.{◌≡◌}
use Prim.Native.Nat.{◌-◌, ◌≤◌}
use lib.ListN.{length, drop}
use Rattle.output.specs.Feeding.{line_room, feed_leaves, feed_all}
use Rattle.output.proofs.feeding.take_bytes.Given as goal

abbrev pub invariant-loop-at : goal.invariant-loop-at
invariant-loop-at l = (length l.given ≡ length l.initial.given) × (length l.truth ≡ length l.initial.truth) × (length l.line ≡ length l.initial.line) × (line_room ≤ length l.line) × (l.fed.held ≤ line_room) × (feed_all (feed_leaves l.fed l.given l.truth l.line) (drop l.at l.bytes) ≡ feed_all (feed_leaves l.initial.fed l.initial.given l.initial.truth l.initial.line) l.bytes)

abbrev pub decreases-loop-at : goal.decreases-loop-at
decreases-loop-at l = length l.bytes - l.at
