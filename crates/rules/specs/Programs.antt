-- The two programs: what each prints for any input.
-- Assumes nothing.
use Rattle.std.specs.Prelude.{ℕ, ◌+◌, List, [], ◌∷◌, ◌++◌, map, take, drop, replicate, Ok, Err}
use Rattle.rules.specs.Counting.{joined}
use Rattle.rules.specs.File.{byte, word16}
use Rattle.rules.specs.Text.{decimal, lf, formula_text, refusal_line}
use Rattle.rules.specs.Problem.{Problem}
use Rattle.rules.specs.Numbering.{N}
use Rattle.rules.specs.Rows.{Rows, words_for}
use Rattle.rules.specs.Truth.{model_in}
use Rattle.rules.specs.Readings.{schedule_of}
use Rattle.rules.specs.Lines.{Progress}
use Rattle.rules.specs.Output.{first_reading, read_output, outcome}
use Rattle.rules.specs.Calls.{problem_of, problem_verdict}
use Rattle.rules.specs.Answers.{Verdict, LineAnswer}

-- on a refusal a program prints only its line
abbrev pub printed : Verdict → List ℕ → List ℕ
printed (Ok _) text = text
printed (Err why) text = refusal_line why

-- a horizon byte, then the file; a missing byte reads as 0
unfoldable pub clauses_output : List ℕ → List ℕ
clauses_output input = printed (problem_verdict (drop 1 input) (byte input 0)) (formula_text (problem_of (drop 1 input) (byte input 0)))

-- the entries one a line
unfoldable pub schedule_text : List ℕ → List ℕ
schedule_text schedule = joined (map (λ e. decimal e ++ (lf ∷ [])) schedule)

-- two rows of the words needed, all 0
abbrev pub fresh_rows : Problem → Rows
fresh_rows P = record { given = replicate (words_for (N P)) 0; is_true = replicate (words_for (N P)) 0 }

-- what is printed once all lines are read
abbrev pub model_text : Problem → LineAnswer → Rows → List ℕ
model_text P (Ok reading) rows = printed (outcome P reading.phase rows) (schedule_text (schedule_of P (model_in rows)))
model_text P (Err why) rows = refusal_line why

abbrev pub after_lines : Problem → Progress → List ℕ
after_lines P progress = model_text P progress.answer progress.rows

-- horizon, the file's length in two bytes, the file, or what is there of it, and solver lines
unfoldable pub model_output : List ℕ → List ℕ
model_output input =
    let k : ℕ = byte input 0 in
    let size : ℕ = word16 input 1 in
    let file : List ℕ = take size (drop 3 input) in
    let P : Problem = problem_of file k in
    printed (problem_verdict file k) (after_lines P (read_output (first_reading P) (fresh_rows P) (drop (3 + size) input)))
