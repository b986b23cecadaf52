-- The calls: what each judges, in order, and what it leaves in lent memory. Refusals 1 to 10 come by number, then those of the call itself.
-- Assumes nothing.
use Rattle.std.specs.Prelude.{ℕ, suc, ◌-◌, cond, ◌&&◌, List, [], ◌∷◌, ◌++◌, map, leb, ltb, ℤ, length, take, drop, Ok, Err}
use Rattle.rules.specs.Counting.{joined}
use Rattle.rules.specs.Limits.{max_horizon}
use Rattle.rules.specs.Answers.{Rule, demand, judge, in_turn, Verdict, LineAnswer}
use Rattle.rules.specs.File.{task_of, file_rules}
use Rattle.rules.specs.Problem.{Problem, problem}
use Rattle.rules.specs.Numbering.{N}
use Rattle.rules.specs.Families.{signed, C, clause}
use Rattle.rules.specs.Text.{header_line, clause_line, clause_lines}
use Rattle.rules.specs.Rows.{Rows}
use Rattle.rules.specs.Truth.{model_in}
use Rattle.rules.specs.Walk.{schedule_rules}
use Rattle.rules.specs.Readings.{schedule_of, rows_of}
use Rattle.rules.specs.Lines.{rows_fit, Progress}
use Rattle.rules.specs.Output.{first_reading, cleared_rows, outcome}
use Rattle.rules.specs.declared.Refusal.TheVariants.{Horizon, ClauseNumber, Room}
use Rattle.rules.specs.declared.Phase.{Phase}

-- the problem that a file states at a horizon
unfoldable pub problem_of : List ℕ → ℕ → Problem
problem_of file k = problem (task_of file) k

-- ---- the rules in their order

-- 1 to 8
unfoldable pub problem_rules : List ℕ → ℕ → List Rule
problem_rules file k = file_rules file ++ (demand (leb k max_horizon) Horizon ∷ [])

-- 1 to 9
unfoldable pub clause_rules : List ℕ → ℕ → ℕ → List Rule
clause_rules file k c = problem_rules file k ++ (demand (ltb c (C (problem_of file k))) ClauseNumber ∷ [])

-- 10: room for what is to be written or read
abbrev pub room_rule : (needed lent : ℕ) → List Rule
room_rule needed lent = demand (leb needed lent) Room ∷ []

-- ---- lent memory

module _ {X : Type 0} where
  -- what is written stands first and behind it nothing changes; a refusal leaves all as found
  abbrev pub lent_after : Verdict → (written : List X) → (lent : List X) → List X
  lent_after (Ok _) written lent = written ++ drop (length written) lent
  lent_after (Err why) written lent = lent

abbrev pub rows_after : Verdict → (written : Rows) → (lent : Rows) → Rows
rows_after (Ok _) written lent = written
rows_after (Err why) written lent = lent

-- ---- the formula

unfoldable pub problem_verdict : List ℕ → ℕ → Verdict
problem_verdict file k = judge (problem_rules file k)

-- clause c as the numbers that a solver takes
unfoldable pub clause_signed : List ℕ → ℕ → ℕ → List ℤ
clause_signed file k c = map signed (clause (problem_of file k) c)

unfoldable pub clause_verdict : List ℕ → ℕ → ℕ → (room : ℕ) → Verdict
clause_verdict file k c room = judge (clause_rules file k c ++ room_rule (length (clause (problem_of file k) c)) room)

unfoldable pub header_verdict : List ℕ → ℕ → (room : ℕ) → Verdict
header_verdict file k room = judge (problem_rules file k ++ room_rule (length (header_line (problem_of file k))) room)

unfoldable pub clause_line_verdict : List ℕ → ℕ → ℕ → (room : ℕ) → Verdict
clause_line_verdict file k c room = judge (clause_rules file k c ++ room_rule (length (clause_line (clause (problem_of file k) c))) room)

-- how many whole lines fit
unfoldable pub fitting : ℕ → List (List ℕ) → ℕ
fitting room [] = 0
fitting room (l ∷ ls) = let more : ℕ = suc (fitting (room - length l) ls) in cond (leb (length l) room) more 0

-- the longest run of whole lines, from clause c on, that fits
unfoldable pub lines_from : List ℕ → ℕ → ℕ → (room : ℕ) → List (List ℕ)
lines_from file k c room = let ls : List (List ℕ) = drop c (clause_lines (problem_of file k)) in take (fitting room ls) ls

-- lent room after each of these calls; many lines are judged as their first is
abbrev pub literals_after : List ℕ → ℕ → ℕ → (room : List ℤ) → List ℤ
literals_after file k c room = lent_after (clause_verdict file k c (length room)) (clause_signed file k c) room

abbrev pub header_after : List ℕ → ℕ → (room : List ℕ) → List ℕ
header_after file k room = lent_after (header_verdict file k (length room)) (header_line (problem_of file k)) room

abbrev pub clause_line_after : List ℕ → ℕ → ℕ → (room : List ℕ) → List ℕ
clause_line_after file k c room = lent_after (clause_line_verdict file k c (length room)) (clause_line (clause (problem_of file k) c)) room

abbrev pub lines_after : List ℕ → ℕ → ℕ → (room : List ℕ) → List ℕ
lines_after file k c room = lent_after (clause_line_verdict file k c (length room)) (joined (lines_from file k c (length room))) room

-- ---- the reading of solver output

unfoldable pub start_verdict : List ℕ → ℕ → Rows → Verdict
start_verdict file k rows = judge (problem_rules file k ++ (demand (rows_fit (N (problem_of file k)) rows) Room ∷ []))

-- the first reading state and cleared rows, or a refusal and the rows as found
abbrev pub started_by : Verdict → Problem → Rows → Progress
started_by (Ok _) P rows = record { answer = Ok (first_reading P); rows = cleared_rows P rows }
started_by (Err why) P rows = record { answer = Err why; rows = rows }

unfoldable pub start_reading : List ℕ → ℕ → Rows → Progress
start_reading file k rows = started_by (start_verdict file k rows) (problem_of file k) rows

-- 1 to 8, and 10 for both rows and k entries
abbrev pub lent_rules : List ℕ → ℕ → Rows → (entries : List ℕ) → List Rule
lent_rules file k rows entries = problem_rules file k ++ (demand (rows_fit (N (problem_of file k)) rows && leb k (length entries)) Room ∷ [])

unfoldable pub end_verdict : List ℕ → ℕ → Phase → Rows → (entries : List ℕ) → Verdict
end_verdict file k phase rows entries =
    in_turn (judge (lent_rules file k rows entries)) (outcome (problem_of file k) phase rows)

-- an accepted model becomes the schedule that it states
unfoldable pub end_entries : List ℕ → ℕ → Phase → Rows → (entries : List ℕ) → List ℕ
end_entries file k phase rows entries = lent_after (end_verdict file k phase rows entries) (schedule_of (problem_of file k) (model_in rows)) entries

-- ---- the way back; a schedule's entries after the first k are not read

unfoldable pub back_verdict : List ℕ → ℕ → (entries : List ℕ) → Rows → Verdict
back_verdict file k entries rows =
    judge (lent_rules file k rows entries ++ schedule_rules (task_of file) k entries)

unfoldable pub back_rows : List ℕ → ℕ → (entries : List ℕ) → Rows → Rows
back_rows file k entries rows = rows_after (back_verdict file k entries rows) (rows_of (problem_of file k) entries rows) rows
