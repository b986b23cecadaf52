-- The rules' words for what is lent as bytes: a pair, the start values, the goal.
-- Assumes nothing.
use Rattle.std.specs.Prelude.{ℕ, ◌+◌, ◌/◌, not, List, length}
use Rattle.rules.specs.Counting.{first, table}
use Rattle.rules.specs.Limits.{max_variables, pair_bytes}
use Rattle.rules.specs.Task.{Pair, pair}
use Rattle.rules.specs.File.{byte, pairs_at}
use Rattle.rules.specs.Walk.{State, holds}

-- the pair that begins at a place
abbrev pub pair_at : List ℕ → ℕ → Pair
pair_at s at = record { variable = byte s at; value = byte s (at + 1) }

-- 96 values: those of a start body, and 0 behind them
unfoldable pub start_values : List ℕ → State
start_values start = table max_variables (byte start)

-- the pairs of a goal body
abbrev pub goal_in : List ℕ → List Pair
goal_in goal = pairs_at goal 0 (length goal / pair_bytes)

-- the first pair that does not hold, or how many there are
unfoldable pub first_unmet : State → List Pair → ℕ
first_unmet σ ps = first (length ps) (λ i. not (holds σ (pair ps i)))
