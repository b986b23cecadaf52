-- Running sums in a lent index, and the summand in which a number lies.
-- Assumes nothing.
use Rattle.std.specs.Prelude.{ℕ, ◌+◌, ◌-◌, ◌*◌, ◌≤◌, ◌<◌, List, length, get_or}
use Rattle.rules.specs.Counting.{sum_to}

-- number i of a column of an index: every so many places a number, from a place on
unfoldable pub column : (index : List ℕ) (at width i : ℕ) → ℕ
column index at width i = get_or index (at + width * i) 0

-- a column whose first number is at most q, and number `rows` above it
pub record Spans (index : List ℕ) (at width rows q : ℕ) : Type 0 where
  pub room : at + width * rows < length index
  pub from : column index at width 0 ≤ q
  pub to : q < column index at width rows

-- q lies in summand x of the m summands w
pub record InPart (m : ℕ) (w : ℕ → ℕ) (q x : ℕ) : Type 0 where
  pub below : x < m
  pub begun : sum_to x w ≤ q
  pub inside : q - sum_to x w < w x
