-- A whole solver output: its bytes cut at LF and read line by line, how a reading starts, and how it ends (refusals 15 to 19).
-- Assumes nothing.
use Rattle.std.specs.Prelude.{ℕ, not, replicate, Ok, Err}
use mathlib.Core.List.{List, [], ◌∷◌, foldl}
use Rattle.rules.specs.Answers.{Rule, none_at_fault, judge, in_turn, Verdict, LineAnswer}
use Rattle.rules.specs.Problem.{Problem}
use Rattle.rules.specs.Numbering.{N}
use Rattle.rules.specs.Families.{C, clause}
use Rattle.rules.specs.Text.{lf}
use Rattle.rules.specs.Rows.{Rows, words_for, over_row}
use Rattle.rules.specs.Truth.{clause_true, model_in}
use Rattle.rules.specs.Lines.{pieces, Progress, read_line}
use Rattle.rules.specs.declared.Refusal.TheVariants.{Unfinished, UnmetClause, Unsatisfiable, Unknown}
use Rattle.rules.specs.declared.Phase.{Phase}
use Rattle.rules.specs.declared.Phase.TheVariants.{NoStatus, ModelOpen, ModelClosed, SaidUnsatisfiable, SaidUnknown}
use Rattle.rules.specs.declared.Reading.{Reading}

-- ---- the start

abbrev pub first_reading : Problem → Reading
first_reading P = record { highest = N P; phase = NoStatus }

-- the words needed are 0 in both rows
unfoldable pub cleared_rows : Problem → Rows → Rows
cleared_rows P rows =
    record {
      given = over_row (replicate (words_for (N P)) 0) rows.given;
      is_true = over_row (replicate (words_for (N P)) 0) rows.is_true;
    }

-- ---- the lines

-- nothing after a last LF is no line; what stands there is one
unfoldable pub without_empty_last : List (List ℕ) → List (List ℕ)
without_empty_last [] = []
without_empty_last ([] ∷ []) = []
without_empty_last ((b ∷ l) ∷ []) = (b ∷ l) ∷ []
without_empty_last (l ∷ (m ∷ ls)) = l ∷ without_empty_last (m ∷ ls)

unfoldable pub lines_of : List ℕ → List (List ℕ)
lines_of bytes = without_empty_last (pieces lf bytes)

-- the first refused line ends the reading
abbrev pub read_on : LineAnswer → Rows → List ℕ → Progress
read_on (Ok reading) rows line = read_line reading rows line
read_on (Err why) rows line = record { answer = Err why; rows = rows }

unfoldable pub read_lines : Reading → Rows → List (List ℕ) → Progress
read_lines reading rows lines = foldl (λ p line. read_on p.answer p.rows line) (record { answer = Ok reading; rows = rows }) lines

unfoldable pub read_output : Reading → Rows → List ℕ → Progress
read_output reading rows bytes = read_lines reading rows (lines_of bytes)

-- ---- the end

-- what the status alone decides: no status, 18, 19, not closed
abbrev pub ending : Phase → Verdict
ending NoStatus = Err Unfinished
ending SaidUnsatisfiable = Err Unsatisfiable
ending SaidUnknown = Err Unknown
ending ModelOpen = Err Unfinished
ending ModelClosed = Ok tt

-- 17: a clause has no true literal among those named
unfoldable pub model_rules : Problem → Rows → List Rule
model_rules P rows = none_at_fault (C P) (λ c. not (clause_true (model_in rows) (clause P c))) UnmetClause ∷ []

unfoldable pub outcome : Problem → Phase → Rows → Verdict
outcome P phase rows = in_turn (ending phase) (judge (model_rules P rows))
