-- The facts of a mutex group: read one after the other, they change where the reading stands and nothing else.
-- Assumes nothing.
use Rattle.std.specs.Prelude.{ℕ, ◌-◌, ◌≤◌, ◌<◌, ◌≡◌, Bool, false, ◌&&◌, List, ltb, length, get_or, take, drop, Ok}
use Rattle.rules.specs.Text.{lf}
use Rattle.rules.specs.declared.FormatLine.TheVariants.{MutexFact}
use Rattle.textlines.specs.Says.{is_fact}
use Rattle.translator.specs.Position.{repeated}
use Rattle.translator.specs.Intake.{Memory, one_more, head_room, taken, take_all}
use Rattle.translator.specs.declared.intake.Intake.{Intake}
use Rattle.translator.specs.declared.facts.Facts.{Facts}

abbrev pub facts : (at held left lines : ℕ) → Facts
facts at held left lines = record { at = at; held = held; left = left; lines = lines }

-- a reading that is so far among the facts of its group
abbrev pub among_facts : Facts → Intake → Intake
among_facts f i =
    record { position = repeated MutexFact f.left i.position; lines = f.lines; verdict = Ok tt; kept = i.kept; held = f.held }

-- a fact has ended before a place
unfoldable pub one_read : (next : ℕ) → Facts → Facts
one_read next f = facts next 0 (f.left - 1) (one_more f.lines)

-- facts are read: for every reading what is left comes to the same
unfoldable pub SameFacts : (bytes : List ℕ) (first : Facts) (line : List ℕ) (then : Facts) (line_then : List ℕ) → Type 0
SameFacts bytes first line then line_then =
    (i : Intake) (m : Memory)
    → take_all (taken (among_facts then i) m line_then) (drop then.at bytes) ≡ take_all (taken (among_facts first i) m line) (drop first.at bytes)

pub record FactsRead (bytes : List ℕ) (first : Facts) (line : List ℕ) (then : Facts) (line_then : List ℕ) : Type 0 where
  pub from : first.at ≤ then.at
  pub within : then.at ≤ length bytes
  pub fits : then.held ≤ head_room
  pub rest : SameFacts bytes first line then line_then

-- whether what is held is a fact and ends at a place
unfoldable pub fact_ends : (bytes : List ℕ) (at held : ℕ) (line : List ℕ) → Bool
fact_ends bytes at held line = ltb at (length bytes) && is_fact (take held line)

-- no more facts come next, though so many are left: the line that is held has not ended, or it is none
pub record NoneNext (left : ℕ) (bytes : List ℕ) (at held : ℕ) (line : List ℕ) : Type 0 where
  pub ends : 0 < left → at < length bytes → get_or bytes at 0 ≡ lf
  pub none : 0 < left → fact_ends bytes at held line ≡ false

pub record AllRead (bytes : List ℕ) (first : Facts) (line : List ℕ) (then : Facts) (line_then : List ℕ) : Type 0 where
  pub read : FactsRead bytes first line then line_then
  pub over : NoneNext then.left bytes then.at then.held line_then

-- a reading goes on so, and what it keeps stays
pub record FactsTaken (i : Intake) (line bytes : List ℕ) (at : ℕ) (then : Intake) (end : ℕ) (line_then : List ℕ) : Type 0 where
  pub from : at ≤ end
  pub within : end ≤ length bytes
  pub fits : then.held ≤ head_room
  pub kept : then.kept ≡ i.kept
  pub over : NoneNext then.position.inner bytes end then.held line_then
  pub rest : (m : Memory) → take_all (taken then m line_then) (drop end bytes) ≡ take_all (taken i m line) (drop at bytes)
