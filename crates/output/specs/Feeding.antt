-- A whole output, fed in pieces: lines are read as they end, and what there is of the next one is held in lent bytes, one more than a line may
-- have at most.
-- Assumes nothing.
use Rattle.std.specs.Prelude.{ℕ, ◌+◌, ◌-◌, min, ◌≡◌, Bool, cond, ◌&&◌, eqb, leb, ltb, length, take, set, Ok, Err}
use mathlib.Core.List.{List, foldl}
use Rattle.rules.specs.Limits.{max_line}
use Rattle.rules.specs.Text.{lf}
use Rattle.rules.specs.Rows.{Rows}
use Rattle.rules.specs.Lines.{Progress, read_line}
use Rattle.rules.specs.declared.Refusal.TheVariants.{Room}
use Rattle.rules.specs.Answers.{LineAnswer}
use Rattle.lent_bytes.specs.Words.{length_until}
use Rattle.digits.specs.Over.{over}
use Rattle.output.specs.Line.{leaves, both_fit}
use Rattle.output.specs.declared.feeding.Feed.{Feed}

-- a line that is too long is told by one byte more than it may have
abbrev pub line_room : ℕ
line_room = max_line + 1

-- how far the reading is, and how many of the lent bytes the line that has begun takes up
pub record Fed : Type 0 where
  pub progress : Progress
  pub held : ℕ
  pub line : List ℕ

abbrev pub feed_leaves : Feed → (given is_true line : List ℕ) → Fed
feed_leaves feed given is_true line = record { progress = leaves feed.answer given is_true; held = feed.held; line = line }

-- an LF ends the line; another byte is held, if there is room for it; a refused line ends the reading
abbrev pub fed_byte : LineAnswer → Rows → (held : ℕ) (line : List ℕ) → ℕ → Fed
fed_byte (Ok reading) rows held line b =
    cond (eqb b lf) (record { progress = read_line reading rows (take held line); held = 0; line = line })
    (cond (ltb held line_room) (record { progress = record { answer = Ok reading; rows = rows }; held = held + 1; line = set line held b })
    (record { progress = record { answer = Ok reading; rows = rows }; held = held; line = line }))
fed_byte (Err why) rows held line b =
    record { progress = record { answer = Err why; rows = rows }; held = held; line = line }

unfoldable pub feed_byte : Fed → ℕ → Fed
feed_byte fed b = fed_byte fed.progress.answer fed.progress.rows fed.held fed.line b

unfoldable pub feed_all : Fed → List ℕ → Fed
feed_all fed bytes = foldl feed_byte fed bytes

-- what is held once so many more bytes of a line have come, and where: behind those that are held, as far as there is room
abbrev pub held_then : (held more : ℕ) → ℕ
held_then held more = min (held + more) line_room

abbrev pub line_then : (line : List ℕ) (held : ℕ) (part : List ℕ) → List ℕ
line_then line held part = over line held (take (line_room - held) part)

-- bytes of one line, and perhaps the LF behind them
abbrev pub WithoutLF : List ℕ → Type 0
WithoutLF part = length_until lf part ≡ length part

unfoldable pub feed_part : Fed → (part : List ℕ) (ends : Bool) → Fed
feed_part fed part ends = cond ends (feed_byte (feed_all fed part) lf) (feed_all fed part)

-- so many words and bytes are room for a line and for the rows of a reading; a refused reading needs no rows
unfoldable pub room_for : LineAnswer → (given is_true line : ℕ) → Bool
room_for (Ok reading) given is_true line = leb line_room line && both_fit reading.highest given is_true
room_for (Err why) given is_true line = leb line_room line

unfoldable pub has_room : Fed → Bool
has_room fed = room_for fed.progress.answer (length fed.progress.rows.given) (length fed.progress.rows.is_true) (length fed.line)

-- the call: room has to be lent, and no more is held than that
unfoldable pub feed_call : Fed → List ℕ → Fed
feed_call fed bytes =
    cond (has_room fed) (feed_all (record { progress = fed.progress; held = min fed.held line_room; line = fed.line }) bytes)
    (record { progress = record { answer = Err Room; rows = fed.progress.rows }; held = fed.held; line = fed.line })

-- what is held at the end is a line
abbrev pub finished : LineAnswer → Rows → (held : ℕ) (line : List ℕ) → Progress
finished (Ok reading) rows held line =
    cond (eqb held 0) (record { answer = Ok reading; rows = rows }) (read_line reading rows (take held line))
finished (Err why) rows held line = record { answer = Err why; rows = rows }

unfoldable pub finish : Fed → Progress
finish fed = finished fed.progress.answer fed.progress.rows fed.held fed.line

unfoldable pub finish_call : Fed → Progress
finish_call fed =
    cond (has_room fed) (finish (record { progress = fed.progress; held = min fed.held line_room; line = fed.line }))
    (record { answer = Err Room; rows = fed.progress.rows })
