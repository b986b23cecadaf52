-- Which value each action gives a variable.
-- Assumes nothing.
use Rattle.std.specs.Prelude.{ℕ, ◌<◌, ◌≡◌, Bool, cond, List, eqb, ltb, length, get_or, Option, Some, None}
use Rattle.rules.specs.Limits.{max_actions}
use Rattle.rules.specs.Counting.{first}
use Rattle.rules.specs.Task.{Task, pair, action}

-- effect i of action a is of x
unfoldable pub sets_it : Task → (x a i : ℕ) → Bool
sets_it T x a i = eqb (pair (action T a).effects i).variable x

-- the effect of action a that is of x, if any
unfoldable pub setter : Task → (x a : ℕ) → ℕ
setter T x a = first (length (action T a).effects) (sets_it T x a)

-- its value
unfoldable pub given_to : Task → (x a : ℕ) → Option ℕ
given_to T x a = cond (ltb (setter T x a) (length (action T a).effects)) (Some (pair (action T a).effects (setter T x a)).value) None

-- what the first m actions give x is noted
pub record Noted (T : Task) (x m : ℕ) (given : List (Option ℕ)) : Type 0 where
  pub room : length given ≡ max_actions
  pub each : (a : ℕ) → a < m → get_or given a None ≡ given_to T x a
