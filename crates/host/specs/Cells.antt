-- What a call leaves in the caller's cells.
-- Assumes nothing.
use Rattle.std.specs.Prelude.{ℕ, List, Ok, Err}
use Rattle.rules.specs.Answers.{Answer, answer, answer_to_line, Verdict, LineAnswer}
use Rattle.rules.specs.Rows.{Rows}
use Rattle.rules.specs.Lines.{Progress}
use Rattle.output.specs.Line.{lent, leaves}
use Rattle.output.specs.Feeding.{Fed}
use Rattle.host.specs.States.{phase_number, reading_of}

-- a count is 0 where the call refuses
unfoldable pub counted : Verdict → ℕ → ℕ
counted (Ok _) count = count
counted (Err why) count = 0

-- a reading state is left as found where the call refuses
abbrev pub phase_left : LineAnswer → (found : ℕ) → ℕ
phase_left (Ok reading) found = phase_number reading.phase
phase_left (Err why) found = found

abbrev pub highest_left : LineAnswer → (found : ℕ) → ℕ
highest_left (Ok reading) found = reading.highest
highest_left (Err why) found = found

-- what a call on a reading leaves: number and detail, the phase's number, both rows
pub record Left : Type 0 where
  pub told : Answer
  pub phase : ℕ
  pub rows : Rows

abbrev pub left : (number detail phase : ℕ) (given is_true : List ℕ) → Left
left number detail phase given is_true = record { told = answer number detail; phase = phase; rows = lent given is_true }

unfoldable pub left_by : Progress → (found : ℕ) → Left
left_by progress found = record { told = answer_to_line progress.answer; phase = phase_left progress.answer found; rows = progress.rows }

-- the same between two pieces of a whole output, with what is held of a line that has begun
pub record FedLeft : Type 0 where
  pub reading : Left
  pub held : ℕ
  pub line : List ℕ

abbrev pub fed_left : (number detail phase held : ℕ) (given is_true line : List ℕ) → FedLeft
fed_left number detail phase held given is_true line = record { reading = left number detail phase given is_true; held = held; line = line }

unfoldable pub fed_left_by : Fed → (found : ℕ) → FedLeft
fed_left_by fed found = record { reading = left_by fed.progress found; held = fed.held; line = fed.line }

-- what such a call finds
unfoldable pub fed_so_far : (highest phase held : ℕ) (given is_true line : List ℕ) → Fed
fed_so_far highest phase held given is_true line =
    record { progress = leaves (Ok (reading_of highest phase)) given is_true; held = held; line = line }
