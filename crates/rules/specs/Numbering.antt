-- The numbering: formula numbers of a value and of an action at a step. Steps count from 0 here: the rules' step t is s + 1.
-- Assumes nothing.
use Rattle.std.specs.Prelude.{ℕ, ◌+◌, ◌*◌}
use Rattle.rules.specs.Task.{Task, S, A, off}
use Rattle.rules.specs.Problem.{Problem}

-- how far apart the numbers of one thing are at two steps in a row
abbrev pub stride : Task → ℕ
stride T = S T + A T

-- value v of variable x at step s
unfoldable pub value_number : Problem → ℕ → ℕ → ℕ → ℕ
value_number P s x v = s * stride P.task + off P.task x + v + 1

-- action a at step s
unfoldable pub action_number : Problem → ℕ → ℕ → ℕ
action_number P s a = s * stride P.task + S P.task + a + 1

-- the number of formula variables
unfoldable pub N : Problem → ℕ
N P = P.horizon * stride P.task + S P.task
