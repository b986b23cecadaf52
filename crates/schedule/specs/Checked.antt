-- The verdict on a schedule by itself: refusals 1 to 8, 10 where there are fewer than k entries, and 20 to 22.
-- Assumes nothing.
use Rattle.std.specs.Prelude.{ℕ, List, ◌++◌, length}
use Rattle.rules.specs.Answers.{judge, Verdict}
use Rattle.rules.specs.File.{task_of}
use Rattle.rules.specs.Walk.{schedule_rules}
use Rattle.rules.specs.Calls.{problem_rules, room_rule}

unfoldable pub checked_verdict : List ℕ → ℕ → (entries : List ℕ) → Verdict
checked_verdict file k entries = judge (problem_rules file k ++ room_rule k (length entries) ++ schedule_rules (task_of file) k entries)
