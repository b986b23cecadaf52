-- The task that four bodies state, and what is judged of a body by itself.
-- Assumes nothing.
use Rattle.std.specs.Prelude.{ℕ, ◌%◌, ◌/◌, cond, ◌&&◌, List, [], Option, Some, None, map, leb, eqb, length, drop}
use Rattle.rules.specs.Limits.{pair_bytes}
use Rattle.rules.specs.Answers.{Rule}
use Rattle.rules.specs.Task.{Task, action_in_order, task_rules}
use Rattle.rules.specs.File.{pairs_at, action_bytes, action_in, rests, is_whole}

abbrev pub task_in : (sizes start goal actions : List ℕ) → Task
task_in sizes start goal actions =
    record {
      sizes = sizes;
      start = start;
      goal = pairs_at goal 0 (length goal / pair_bytes);
      actions = map action_in (rests actions);
    }

-- refusals 3 to 7
unfoldable pub bodies_rules : (sizes start goal actions : List ℕ) → List Rule
bodies_rules sizes start goal actions = task_rules (eqb (length goal % pair_bytes) 0) (is_whole (rests actions)) (task_in sizes start goal actions)

-- the last of them alone, which looks at no start and no goal
unfoldable pub actions_rule : (sizes actions : List ℕ) → List Rule
actions_rule sizes actions = drop 4 (bodies_rules sizes [] [] actions)

-- a task of which only the domain sizes are known
abbrev pub sized : List ℕ → Task
sized sizes = record { sizes = sizes; start = []; goal = []; actions = [] }

-- how many bytes the action takes that begins a stretch; none where it is at fault
unfoldable pub action_read : (sizes rest : List ℕ) → Option ℕ
action_read sizes rest =
    cond (leb (action_bytes rest) (length rest) && action_in_order (sized sizes) (action_in rest)) (Some (action_bytes rest)) None
