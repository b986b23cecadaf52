-- What the calls answer.
-- Assumes nothing.
use Rattle.std.specs.Prelude.{ℕ, List, length, Result, Ok, Err}
use Rattle.rules.specs.Problem.{Problem}
use Rattle.rules.specs.Numbering.{N}
use Rattle.rules.specs.Families.{C, clause}
use Rattle.rules.specs.Calls.{problem_of, problem_verdict, clause_verdict}
use Rattle.rules.specs.Answers.{Verdict}
use Rattle.rules.specs.declared.Refusal.{Refusal}
use Rattle.formula.specs.declared.calls.FormulaCounts.{FormulaCounts}

abbrev pub CountsAnswer : Type 0
CountsAnswer = Result FormulaCounts Refusal

abbrev pub found : (variables clauses : ℕ) → CountsAnswer
found variables clauses = Ok (record { variables = variables; clauses = clauses })

abbrev pub counts_by : Verdict → Problem → CountsAnswer
counts_by (Ok _) P = found (N P) (C P)
counts_by (Err why) P = Err why

-- N and C, or refusals 1 to 8
unfoldable pub counts_answer : List ℕ → ℕ → CountsAnswer
counts_answer file k = counts_by (problem_verdict file k) (problem_of file k)

-- how many literals were written
abbrev pub LiteralsAnswer : Type 0
LiteralsAnswer = Result ℕ Refusal

abbrev pub literals_by : Verdict → ℕ → LiteralsAnswer
literals_by (Ok _) count = Ok count
literals_by (Err why) count = Err why

-- the number of literals of clause c, or refusals 1 to 10
unfoldable pub literals_answer : List ℕ → ℕ → ℕ → (room : ℕ) → LiteralsAnswer
literals_answer file k c room = literals_by (clause_verdict file k c room) (length (clause (problem_of file k) c))
