-- Family 7 by bits: a value changes alone where it is not named false at the next step, not named true at this one, and no action named true gives it.
-- Assumes nothing.
use Rattle.std.specs.Prelude.{ℕ, suc, Bool, true, false, not, ◌&&◌, List, eqb, ltb}
use Rattle.rules.specs.Counting.{first}
use Rattle.rules.specs.Task.{A, pair, action}
use Rattle.rules.specs.Families.{gives}
use Rattle.rules.specs.Rows.{Rows}
use Rattle.rules.specs.File.{task_of}
use Rattle.task.specs.Numbers.{at_any_horizon}
use Rattle.checker.specs.Order.{holds_at, acts_at}

-- effect i of action a is x = v
unfoldable pub effect_is : (file : List ℕ) → ℕ → ℕ → ℕ → ℕ → Bool
effect_is file a x v i = eqb (pair (action (task_of file) a).effects i).variable x && eqb (pair (action (task_of file) a).effects i).value v

-- action a has the effect x = v
unfoldable pub gives_at : (file : List ℕ) → ℕ → ℕ → ℕ → Bool
gives_at file x v a = gives (at_any_horizon file) a x v

-- action a is named true at step s and has the effect x = v
unfoldable pub supports_at : (file : List ℕ) → Rows → ℕ → ℕ → ℕ → ℕ → Bool
supports_at file rows s x v a = acts_at false file rows s a && gives_at file x v a

-- some action does
unfoldable pub supported_at : (file : List ℕ) → Rows → ℕ → ℕ → ℕ → Bool
supported_at file rows s x v = ltb (first (A (task_of file)) (supports_at file rows s x v)) (A (task_of file))

unfoldable pub changes_alone : (file : List ℕ) → Rows → ℕ → ℕ → ℕ → Bool
changes_alone file rows s x v = holds_at true file rows (suc s) x v && (not (holds_at false file rows s x v) && not (supported_at file rows s x v))
