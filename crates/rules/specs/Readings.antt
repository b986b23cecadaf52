-- The readings between models and schedules: the schedule that a model states, and the assignment of a schedule.
-- Assumes nothing.
use Rattle.std.specs.Prelude.{ℕ, suc, Bool, true, cond, List, ◌++◌, ltb, eqb, get_or, replicate}
use Rattle.rules.specs.Counting.{first, for_each, table}
use Rattle.rules.specs.Task.{Task, n, d, A}
use Rattle.rules.specs.Problem.{Problem}
use Rattle.rules.specs.Numbering.{action_number, N}
use Rattle.rules.specs.Families.{plus}
use Rattle.rules.specs.Truth.{Model, literal_true}
use Rattle.rules.specs.Rows.{Rows, packed, over_row}
use Rattle.rules.specs.Walk.{State, entry, state_at}

-- ---- from a model to a schedule

-- the first action that is true at step s, or A where none is
unfoldable pub true_action : Problem → Model → ℕ → ℕ
true_action P M s = first (A P.task) (λ a. literal_true M (plus (action_number P s a)))

unfoldable pub entry_of : Problem → Model → ℕ → ℕ
entry_of P M s = cond (ltb (true_action P M s) (A P.task)) (suc (true_action P M s)) 0

unfoldable pub schedule_of : Problem → Model → List ℕ
schedule_of P M = table P.horizon (entry_of P M)

-- ---- from a schedule to a model, in the order of the numbering

unfoldable pub value_bits : Task → State → List Bool
value_bits T σ = for_each (n T) (λ x. table (d T x) (λ v. eqb (get_or σ x 0) v))

unfoldable pub action_bits : Task → ℕ → List Bool
action_bits T e = table (A T) (λ a. eqb e (suc a))

unfoldable pub assignment_of : Problem → List ℕ → List Bool
assignment_of P schedule =
    for_each P.horizon (λ s. value_bits P.task (state_at P.task schedule s) ++ action_bits P.task (entry schedule s))
    ++ value_bits P.task (state_at P.task schedule P.horizon)

-- both rows with an assignment in them: all N variables given, exactly its true ones true, words behind untouched
abbrev pub rows_holding : Problem → List Bool → Rows → Rows
rows_holding P bits rows = record { given = over_row (packed (replicate (N P) true)) rows.given; is_true = over_row (packed bits) rows.is_true }

-- both rows with the schedule's assignment
unfoldable pub rows_of : Problem → List ℕ → Rows → Rows
rows_of P schedule rows = rows_holding P (assignment_of P schedule) rows
