-- The input in parts, and what is printed once the last is taken in.
-- Assumes nothing.
use Rattle.std.specs.Prelude.{ℕ, ◌*◌, ◌-◌, ◌^◌, ◌≤◌, ◌<◌, ◌≡◌, length, take, Ok, Err}
use mathlib.Core.List.{List, [], ◌++◌, foldl}
use Rattle.rules.specs.Counting.{joined}
use Rattle.rules.specs.Text.{refusal_line}
use Rattle.rules.specs.Translation.{translation_output}
use Rattle.translator.specs.Intake.{Taken, take_call, Ended, finish_call, Translation}

abbrev pub part_room : ℕ
part_room = 65536

-- behind the first; all bytes of all parts can be counted
abbrev pub most_parts : ℕ
most_parts = 2 ^ 47 - 1

-- some parts were taken in, of so many bytes at most
pub record FedSome (before after : Taken) (most : ℕ) : Type 0 where
  pub parts : List (List ℕ)
  pub fed : after ≡ foldl take_call before parts
  pub few : length (joined parts) ≤ most

-- ---- the end

abbrev pub text_of : Translation → (room : List ℕ) → List ℕ
text_of (Ok length) room = take length room
text_of (Err why) room = refusal_line why

-- what is printed: the file that was written, or the line of a refusal
unfoldable pub end_text : Taken → (room : List ℕ) → List ℕ
end_text t room = let e : Ended = finish_call t room in text_of e.answer e.room

-- the first bytes of what is there now are a text
pub record Shown (text now : List ℕ) (end : ℕ) : Type 0 where
  pub is : take end now ≡ text
  pub within : end ≤ length now

-- some parts are taken in before the end
pub record ShownBehind (before : Taken) (room now : List ℕ) (end : ℕ) : Type 0 where
  pub after : Taken
  pub fed : FedSome before after (part_room * most_parts)
  pub shown : Shown (end_text after room) now end

-- they are the output of an input that begins with the first part, and is that part where it is not full
pub record Answered (first now : List ℕ) (end : ℕ) : Type 0 where
  pub rest : List ℕ
  pub all : length first < part_room → rest ≡ []
  pub shown : Shown (translation_output (first ++ rest)) now end
