-- The translation of the translator's text: the reading of its lines (refusals 30 to 32), the task that they state, judged before any number is
-- made a byte (3 to 7), and its task file in lent room (10).
-- Assumes nothing.
use Rattle.std.specs.Prelude.{ℕ, suc, Bool, true, false, length, get_or, Ok, Err}
use mathlib.Core.List.{List, [], ◌∷◌, ◌++◌, foldl, tail}
use Rattle.rules.specs.Limits.{max_file}
use Rattle.rules.specs.Answers.{demand, judge, in_turn, Verdict}
use Rattle.rules.specs.Task.{Task, task_rules}
use Rattle.rules.specs.File.{file_of}
use Rattle.rules.specs.Output.{lines_of}
use Rattle.rules.specs.Calls.{room_rule, lent_after}
use Rattle.rules.specs.Programs.{printed}
use Rattle.rules.specs.Format.{Stated, nothing_stated, Shape, keyword, name, version, metric, layer, number, fact, effect, axiom_count, nothing, first_lines, shape_of, line_rules, lines_announced, stated}
use Rattle.rules.specs.declared.Refusal.TheVariants.{AgainstFormat}
use Rattle.rules.specs.declared.FormatLine.{FormatLine}
use Rattle.rules.specs.declared.FormatLine.TheVariants.{EndOfText}

-- how many lines have been read, which are due, and what has been stated
pub record TextReading : Type 0 where
  pub verdict : Verdict
  pub lines : ℕ
  pub due : List FormatLine
  pub stated : Stated

abbrev pub text_begun : TextReading
text_begun = record { verdict = Ok tt; lines = 0; due = first_lines; stated = nothing_stated }

-- the shape of the next line
unfoldable pub shape_due : TextReading → Shape
shape_due reading = shape_of (get_or reading.due 0 EndOfText)

-- a line in order is read; one at fault ends the reading
abbrev pub line_read : Verdict → Shape → TextReading → List ℕ → TextReading
line_read (Ok _) shape reading line =
    record {
      verdict = Ok tt;
      lines = suc reading.lines;
      due = lines_announced shape line ++ tail reading.due;
      stated = stated shape line reading.stated;
    }
line_read (Err why) shape reading line =
    record { verdict = Err why; lines = reading.lines; due = reading.due; stated = reading.stated }

unfoldable pub read_text_line : TextReading → List ℕ → TextReading
read_text_line reading line = line_read (judge (line_rules (shape_due reading) (suc reading.lines) line)) (shape_due reading) reading line

-- the first line at fault decides
abbrev pub read_further : Verdict → TextReading → List ℕ → TextReading
read_further (Ok _) reading line = read_text_line reading line
read_further (Err why) reading line = reading

unfoldable pub read_text_lines : TextReading → List (List ℕ) → TextReading
read_text_lines reading lines = foldl (λ r line. read_further r.verdict r line) reading lines

unfoldable pub read_text : List ℕ → TextReading
read_text text = read_text_lines text_begun (lines_of text)

-- ---- the end

abbrev pub is_end : Shape → Bool
is_end (keyword word) = false
is_end name = false
is_end version = false
is_end metric = false
is_end layer = false
is_end (number announced states) = false
is_end (fact states) = false
is_end effect = false
is_end axiom_count = false
is_end nothing = true

-- a text that stops early is at fault at the line after its last
unfoldable pub end_of_reading : TextReading → Verdict
end_of_reading reading = in_turn reading.verdict (judge (demand (is_end (shape_due reading)) (AgainstFormat (suc reading.lines)) ∷ []))

-- 30 to 32
unfoldable pub text_verdict : List ℕ → Verdict
text_verdict text = end_of_reading (read_text text)

-- the task that a text states
unfoldable pub text_task : List ℕ → Task
text_task text = (read_text text).stated.task

-- ---- the file

-- 3 to 7 on the numbers read, then 10
unfoldable pub stated_verdict : Task → (room : ℕ) → Verdict
stated_verdict T room = judge (task_rules true (λ a. true) T ++ room_rule (length (file_of T)) room)

unfoldable pub translation_verdict : List ℕ → (room : ℕ) → Verdict
translation_verdict text room = in_turn (text_verdict text) (stated_verdict (text_task text) room)

unfoldable pub translation_after : List ℕ → (room : List ℕ) → List ℕ
translation_after text room = lent_after (translation_verdict text (length room)) (file_of (text_task text)) room

-- the program's output; its room is that of the longest file
unfoldable pub translation_output : List ℕ → List ℕ
translation_output text = printed (translation_verdict text max_file) (file_of (text_task text))
