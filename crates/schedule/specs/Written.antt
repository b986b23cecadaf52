-- The way back, bit by bit: what each loop leaves in a lent row.
-- Assumes nothing.
use Rattle.std.specs.Prelude.{ℕ, zero, suc, ◌≤◌, ◌<◌, Bool, true, ◌&&◌, List, leb, length, get_or}
use Rattle.rules.specs.Task.{Task, n, d}
use Rattle.rules.specs.Problem.{Problem}
use Rattle.rules.specs.Numbering.{value_number, action_number}
use Rattle.rules.specs.Rows.{with_variable}
use Rattle.rules.specs.Walk.{State, entry, state_at}
pub use Rattle.rows.specs.Lent.{lent}

-- both rows have the words that are needed, and there is an entry for each of k steps
unfoldable pub fits : (words given is_true k entries : ℕ) → Bool
fits words given is_true k entries = leb words given && leb words is_true && leb k entries

-- the bits of the variables 1 to m
unfoldable pub all_set : (m : ℕ) → List ℕ → List ℕ
all_set zero row = row
all_set (suc m) row = with_variable (all_set m row) (suc m) true

-- a state's value of each variable is one of its values
pub record Inside (T : Task) (σ : State) : Type 0 where
  pub long : n T ≤ length σ
  pub inside : (x : ℕ) → x < n T → get_or σ x 0 < d T x

-- of step s: the values of the first x variables
unfoldable pub values_set : Problem → (s : ℕ) → State → (x : ℕ) → List ℕ → List ℕ
values_set P s σ zero row = row
values_set P s σ (suc x) row = with_variable (values_set P s σ x row) (value_number P s x (get_or σ x 0)) true

-- of step s: the action of its entry, if there is one
abbrev pub entry_set : Problem → (s e : ℕ) → List ℕ → List ℕ
entry_set P s zero row = row
entry_set P s (suc a) row = with_variable row (action_number P s a) true

-- of step s: its state and its entry
unfoldable pub step_set : Problem → (s e : ℕ) → State → List ℕ → List ℕ
step_set P s e σ row = entry_set P s e (values_set P s σ (n P.task) row)

-- all that is true at the first s steps
unfoldable pub steps_set : Problem → (entries : List ℕ) (s : ℕ) → List ℕ → List ℕ
steps_set P entries zero row = row
steps_set P entries (suc s) row = step_set P s (entry entries s) (state_at P.task entries s) (steps_set P entries s row)

-- and the values at the end
unfoldable pub all_true_set : Problem → (entries : List ℕ) (k : ℕ) → List ℕ → List ℕ
all_true_set P entries k row = values_set P k (state_at P.task entries k) (n P.task) (steps_set P entries k row)
