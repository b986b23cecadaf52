-- How many lines the program prints.
-- Assumes nothing.
use Rattle.std.specs.Prelude.{ℕ, suc, Ok, Err}
use Rattle.rules.specs.Answers.{Verdict}

-- the header and a line a clause, or the one line of a refusal
abbrev pub lines_printed : Verdict → (clauses : ℕ) → ℕ
lines_printed (Ok _) clauses = suc clauses
lines_printed (Err why) clauses = 1
