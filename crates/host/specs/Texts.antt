-- What the answer of a call that writes text holds.
-- Assumes nothing.
use Rattle.std.specs.Prelude.{ℕ, Err, Ok}
use Rattle.rules.specs.Answers.{Answer, answer, answer_of}
use Rattle.text.specs.Said.{TextAnswer}

abbrev pub answer_to_text : TextAnswer → Answer
answer_to_text (Ok run) = answer 0 0
answer_to_text (Err why) = answer_of why

abbrev pub lines_in : TextAnswer → ℕ
lines_in (Ok run) = run.lines
lines_in (Err why) = 0

abbrev pub bytes_in : TextAnswer → ℕ
bytes_in (Ok run) = run.bytes
bytes_in (Err why) = 0
