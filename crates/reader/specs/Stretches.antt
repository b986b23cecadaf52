-- Stretches of a lent file: the part that is handed back is the caller's own memory, from a place on.
-- Assumes nothing.
use Rattle.std.specs.Prelude.{ℕ, zero, suc, ◌+◌, ◌≡◌, cond, List, ltb, Ok, Err}
use Rattle.std.specs.Borrow.{Bor}
use Rattle.rules.specs.Limits.{contents_rows}
use Rattle.rules.specs.File.{body_start, contents_verdict}
use Rattle.rules.specs.Answers.{Verdict}

-- part is the stretch of whole from place start on that holds these bytes
pub record Stretch (whole part : Bor (List ℕ)) (start : ℕ) (bytes : List ℕ) : Type 0 where
  pub holds : part.now ≡ bytes
  pub memory : part.ref_ptr.0 ≡ whole.ref_ptr.0
  pub from : part.ref_ptr.1 ≡ start + whole.ref_ptr.1

-- where the body of a number starts; 0 where there is none
abbrev pub start_if_any : Verdict → List ℕ → ℕ → ℕ
start_if_any (Ok _) file zero = 0
start_if_any (Ok _) file (suc r) = cond (ltb r contents_rows) (body_start file r) 0
start_if_any (Err why) file b = 0

unfoldable pub start_asked : List ℕ → ℕ → ℕ
start_asked file b = start_if_any (contents_verdict file) file b
