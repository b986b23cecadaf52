-- `pairs::pair_of` meets its contract, and in how many turns (`turns`). The loop's invariant: lo and hi bracket the first number of the pair. The measure,
-- which falls with each turn, is how often their distance can be halved.
-- Assumes nothing.
use mathlib.Core.Path.{◌≡◌}
use Prim.Native.Nat.{ℕ, ◌-◌, ◌^◌, ◌≤◌}
use native.Mathlib.Omega.{arith}
use Rattle.rules.specs.Counts.{pairs_before}
use Rattle.pairs.specs.Halving.{halvings}
use Rattle.pairs.proofs.Halving.{Bracket, few_turns}
use Rattle.pairs.proofs.pair_of.Given as goal

abbrev pub invariant-loop-hi : goal.invariant-loop-hi
invariant-loop-hi l = Bracket (pairs_before l.m) l.m l.r l.lo l.hi

abbrev pub decreases-loop-hi : goal.decreases-loop-hi
decreases-loop-hi l = halvings (l.hi - l.lo)

-- before the first turn, with lo at 0 and hi at m, the measure is at most the logarithm of m
pub turns : (l : goal.Live-loop-hi) (t : ℕ) → l.lo ≡ 0 → l.hi ≡ l.m → l.m ≤ 2 ^ t → decreases-loop-hi l ≤ t
turns l t lo hi h = few_turns (l.hi - l.lo) t (omega arith)
