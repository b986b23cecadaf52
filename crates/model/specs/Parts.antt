-- The input in parts: what the first of them holds, the reading that begins with it, and what is printed once the last is fed.
-- Assumes nothing.
use Rattle.std.specs.Prelude.{ℕ, ◌+◌, ◌-◌, ◌*◌, ◌<◌, ◌≡◌, length, take, drop, replicate, Ok, Err}
use mathlib.Core.List.{List, [], ◌++◌, foldl}
use Rattle.rules.specs.Limits.{max_horizon, max_n, byte_values}
use Rattle.rules.specs.File.{byte, word16}
use Rattle.rules.specs.Text.{refusal_line}
use Rattle.rules.specs.Problem.{Problem}
use Rattle.rules.specs.Numbering.{N}
use Rattle.rules.specs.Rows.{Rows, words_for}
use Rattle.rules.specs.Truth.{model_in}
use Rattle.rules.specs.Readings.{schedule_of}
use Rattle.rules.specs.Lines.{Progress}
use Rattle.rules.specs.Calls.{problem_of, problem_verdict, start_reading, end_verdict}
use Rattle.rules.specs.Programs.{printed, schedule_text, model_output}
use Rattle.rules.specs.Answers.{Verdict, LineAnswer}
use Rattle.rules.specs.declared.Phase.{Phase}
use Rattle.output.specs.Feeding.{Fed, feed_call, finish_call}
use Rattle.digits.specs.Over.{over}
use Rattle.printing.specs.Printed.{ended_room}

-- the horizon's byte and the two of the file's length
abbrev pub head_bytes : ℕ
head_bytes = 3

-- the longest file that two bytes announce stands in the first part
abbrev pub first_room : ℕ
first_room = head_bytes + (byte_values * byte_values - 1)

-- the words of a row for the most variables that a formula has
abbrev pub most_words : ℕ
most_words = words_for max_n

-- room for the entries of the longest schedule, and so for the line of a refusal
abbrev pub text_room : ℕ
text_room = ended_room * max_horizon

-- ---- the first part

unfoldable pub file_in : List ℕ → List ℕ
file_in first = take (word16 first 1) (drop head_bytes first)

unfoldable pub lines_in : List ℕ → List ℕ
lines_in first = drop (head_bytes + word16 first 1) first

abbrev pub words_by : Verdict → Problem → ℕ
words_by (Ok _) P = words_for (N P)
words_by (Err why) P = 0

-- the words that each row needs
unfoldable pub words_needed : List ℕ → ℕ
words_needed first = words_by (problem_verdict (file_in first) (byte first 0)) (problem_of (file_in first) (byte first 0))

-- the reading starts, and the lines of the first part are fed
unfoldable pub begun : List ℕ → Rows → (line : List ℕ) → Fed
begun first rows line = feed_call (record { progress = start_reading (file_in first) (byte first 0) rows; held = 0; line = line }) (lines_in first)

-- some parts were fed
pub record FedSome (before after : Fed) : Type 0 where
  pub parts : List (List ℕ)
  pub fed : after ≡ foldl feed_call before parts

-- ---- the end

unfoldable pub end_text : List ℕ → ℕ → Phase → Rows → List ℕ
end_text file k phase rows = printed (end_verdict file k phase rows (replicate max_horizon 0)) (schedule_text (schedule_of (problem_of file k) (model_in rows)))

abbrev pub text_after : List ℕ → LineAnswer → Rows → List ℕ
text_after first (Ok reading) rows = end_text (file_in first) (byte first 0) reading.phase rows
text_after first (Err why) rows = refusal_line why

unfoldable pub last_text : List ℕ → Progress → List ℕ
last_text first progress = text_after first progress.answer progress.rows

-- some parts were fed, and then the end
pub record Ended (first : List ℕ) (before : Fed) (room now : List ℕ) (end : ℕ) : Type 0 where
  pub parts : List (List ℕ)
  pub is : now ≡ over room 0 (last_text first (finish_call (foldl feed_call before parts)))
  pub behind : end ≡ length (last_text first (finish_call (foldl feed_call before parts)))

-- the output of an input that begins with the first part, and is that part where it is not full, is written over the front of room
pub record Answered (first room now : List ℕ) (end : ℕ) : Type 0 where
  pub rest : List ℕ
  pub all : length first < first_room → rest ≡ []
  pub is : now ≡ over room 0 (model_output (first ++ rest))
  pub behind : end ≡ length (model_output (first ++ rest))
