-- The index of a file: numbers that are laid out once, so that each later question is answered by one look.
-- Assumes nothing.
use Rattle.std.specs.Prelude.{ℕ, suc, ◌+◌, ◌-◌, ◌*◌, ◌<◌, ◌≡◌, List, [], ◌∷◌, ◌++◌, length, get_or, Ok}
use Rattle.rules.specs.Counting.{sum_to, for_each}
use Rattle.rules.specs.Limits.{byte_values, max_variables, max_actions}
use Rattle.rules.specs.Counts.{pairs_below}
use Rattle.rules.specs.Task.{Task, d, A, action}
use Rattle.rules.specs.File.{byte, body_start, body, rests, task_of, file_verdict}

-- the rest of an action body from action a on; empty from A on
abbrev pub rest_at : List ℕ → ℕ → List ℕ
rest_at actions a = get_or (rests actions) a []

-- of variable x: the values of the variables before it, and the pairs of values of one variable among them
unfoldable pub variable_row : (sizes : List ℕ) → ℕ → List ℕ
variable_row sizes x = sum_to x (byte sizes) ∷ sum_to x (λ y. pairs_below (byte sizes y)) ∷ []

-- of action a: its place in the file, and the preconditions and the effects of the actions before it
unfoldable pub action_row : (start : ℕ) (actions : List ℕ) → ℕ → List ℕ
action_row start actions a =
    (start + (length actions - length (rest_at actions a)))
    ∷ sum_to a (λ b. byte (rest_at actions b) 0)
    ∷ sum_to a (λ b. byte (rest_at actions b) 1)
    ∷ []

abbrev pub variable_rows : ℕ
variable_rows = suc max_variables

abbrev pub action_rows : ℕ
action_rows = suc max_actions

-- how many numbers a row has
abbrev pub variable_width : ℕ
variable_width = 2

abbrev pub action_width : ℕ
action_width = 3

-- where the rows of the actions begin, and where their count stands
abbrev pub actions_at : ℕ
actions_at = variable_width * variable_rows

abbrev pub count_at : ℕ
count_at = actions_at + action_width * action_rows

abbrev pub index_length : ℕ
index_length = suc count_at

-- a row for each variable and one more, a row for each action and one more, and A
unfoldable pub index_of : List ℕ → List ℕ
index_of file =
    for_each variable_rows (variable_row (body file 0))
    ++ (for_each action_rows (action_row (body_start file 3) (body file 3)) ++ (A (task_of file) ∷ []))

-- the place in the file of action a's first byte; from A on the file's end
unfoldable pub action_place : List ℕ → ℕ → ℕ
action_place file a = body_start file 3 + (length (body file 3) - length (rest_at (body file 3) a))

-- how many values a number of the index has: it has two bytes
abbrev pub index_values : ℕ
index_values = byte_values * byte_values

-- the sums over all rows, which are the largest, are numbers of an index
pub record VariablesFit (sizes : List ℕ) : Type 0 where
  pub values_fit : sum_to variable_rows (byte sizes) < index_values
  pub pairs_fit : sum_to variable_rows (λ y. pairs_below (byte sizes y)) < index_values

pub record ActionsFit (actions : List ℕ) : Type 0 where
  pub preconditions_fit : sum_to action_rows (λ b. byte (rest_at actions b) 0) < index_values
  pub effects_fit : sum_to action_rows (λ b. byte (rest_at actions b) 1) < index_values

-- ---- what else stands in the rows, by the task's letters

-- the pairs of values of one variable, of the variables before x together
unfoldable pub value_pairs_before : Task → ℕ → ℕ
value_pairs_before T x = sum_to x (λ y. pairs_below (d T y))

-- the preconditions of the actions before a together
unfoldable pub preconditions_before : Task → ℕ → ℕ
preconditions_before T a = sum_to a (λ b. length (action T b).preconditions)

-- their effects
unfoldable pub effects_before : Task → ℕ → ℕ
effects_before T a = sum_to a (λ b. length (action T b).effects)

-- an accepted file and its index
pub record Indexed (file index : List ℕ) : Type 0 where
  pub accepted : file_verdict file ≡ Ok tt
  pub filled : index ≡ index_of file
