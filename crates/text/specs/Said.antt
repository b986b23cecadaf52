-- What the calls answer.
-- Assumes nothing.
use Rattle.std.specs.Prelude.{ℕ, List, length, Ok, Err, Result}
use Rattle.rules.specs.Counting.{joined}
use Rattle.rules.specs.Families.{clause}
use Rattle.rules.specs.Text.{header_line, clause_line}
use Rattle.rules.specs.Calls.{problem_of, header_verdict, clause_line_verdict, lines_from}
use Rattle.rules.specs.Answers.{Verdict}
use Rattle.rules.specs.declared.Refusal.{Refusal}
use Rattle.text.specs.declared.runs.Run.{Run}

-- how many lines and bytes were written
abbrev pub TextAnswer : Type 0
TextAnswer = Result Run Refusal

abbrev pub wrote : (lines bytes : ℕ) → TextAnswer
wrote lines bytes = Ok (record { lines = lines; bytes = bytes })

abbrev pub answered : Verdict → (lines bytes : ℕ) → TextAnswer
answered (Ok _) lines bytes = wrote lines bytes
answered (Err why) lines bytes = Err why

-- one line and the bytes of the header, or refusals 1 to 8 and 10
abbrev pub header_answer : List ℕ → ℕ → (room : ℕ) → TextAnswer
header_answer file k room = answered (header_verdict file k room) 1 (length (header_line (problem_of file k)))

-- one line and the bytes of clause c, or refusals 1 to 10
abbrev pub clause_line_answer : List ℕ → ℕ → ℕ → (room : ℕ) → TextAnswer
clause_line_answer file k c room = answered (clause_line_verdict file k c room) 1 (length (clause_line (clause (problem_of file k) c)))

-- how many lines fit from clause c on, and their bytes, or refusals 1 to 10
abbrev pub lines_answer : List ℕ → ℕ → ℕ → (room : ℕ) → TextAnswer
lines_answer file k c room =
    answered (clause_line_verdict file k c room) (length (lines_from file k c room)) (length (joined (lines_from file k c room)))
