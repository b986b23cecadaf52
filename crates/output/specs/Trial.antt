-- The trial of a "v" line: its numbers are judged from left to right, and each that passes is marked at once in the row of given variables, so
-- that the row alone tells what was given before. What was marked is taken back where the line is refused.
-- Assumes nothing.
use Rattle.std.specs.Prelude.{ℕ, suc, ◌+◌, Bool, true, cond, not, ◌&&◌, List, [], ◌∷◌, eqb, ltb, length, drop, Result, Ok, Err}
use Rattle.rules.specs.Text.{space}
use Rattle.rules.specs.Rows.{with_variable}
use Rattle.rules.specs.Lines.{is_number, is_negative, variable_of, Scan, scan_piece}
use Rattle.rules.specs.declared.Refusal.{Refusal}
use Rattle.rules.specs.Answers.{Verdict}
use Rattle.lent_bytes.specs.Words.{pieces_behind}
use Rattle.output.specs.declared.numbers.Stopped.{Stopped}

-- ---- one piece

-- the bit of the variable that a word names, if it names one, is written
unfoldable pub written : Bool → List ℕ → List ℕ → List ℕ
written on row w = cond (is_number w && not (eqb (variable_of w) 0)) (with_variable row (variable_of w) on) row

-- a piece judged where the row marks all that was named before it
unfoldable pub piece_scan : (highest : ℕ) (row : List ℕ) (at : ℕ) (closed : Bool) → List ℕ → Scan
piece_scan highest row at closed p = scan_piece highest row (record { verdict = Ok tt; at = at; closed = closed; named = [] }) p

pub record PieceTrial : Type 0 where
  pub answer : Result Bool Refusal
  pub row : List ℕ

abbrev pub piece_leaves : Result Bool Refusal → List ℕ → PieceTrial
piece_leaves answer row = record { answer = answer; row = row }

-- what passes is marked
abbrev pub piece_trial : Verdict → (closed : Bool) (marked row : List ℕ) → PieceTrial
piece_trial (Ok _) closed marked row = piece_leaves (Ok closed) marked
piece_trial (Err why) closed marked row = piece_leaves (Err why) row

unfoldable pub try_piece : (highest : ℕ) (row : List ℕ) (at : ℕ) (closed : Bool) → List ℕ → PieceTrial
try_piece highest row at closed p =
    piece_trial (piece_scan highest row at closed p).verdict (piece_scan highest row at closed p).closed (written true row p) row

-- ---- the pieces of a line; the gap is where the separator before a piece stands

pub record Trial : Type 0 where
  pub answer : Result Bool Stopped
  pub row : List ℕ

abbrev pub trial_leaves : Result Bool Stopped → List ℕ → Trial
trial_leaves answer row = record { answer = answer; row = row }

-- before which gap a trial stopped
abbrev pub stop_of : Result Bool Stopped → ℕ
stop_of (Ok closed) = 0
stop_of (Err stopped) = stopped.gap

abbrev pub onward : Verdict → (gap : ℕ) (row : List ℕ) → Trial → Trial
onward (Ok _) gap row next = next
onward (Err why) gap row next = trial_leaves (Err (record { why = why; gap = gap })) row

unfoldable pub trial : (highest : ℕ) (row : List ℕ) (gap : ℕ) (closed : Bool) → List (List ℕ) → Trial
trial highest row gap closed [] = trial_leaves (Ok closed) row
trial highest row gap closed (p ∷ ps) =
    let scan : Scan = piece_scan highest row (suc gap) closed p in
    onward scan.verdict gap row (trial highest (written true row p) (gap + suc (length p)) scan.closed ps)

-- the gaps of a "v" line begin behind its first byte
abbrev pub first_gap : ℕ
first_gap = 1

unfoldable pub number_pieces : List ℕ → List (List ℕ)
number_pieces line = pieces_behind space (drop first_gap line)

-- ---- the numbers before a gap written once more: their signs, or 0 for each

unfoldable pub rewritten : (signs : Bool) (stop : ℕ) (row : List ℕ) (gap : ℕ) → List (List ℕ) → List ℕ
rewritten signs stop row gap [] = row
rewritten signs stop row gap (p ∷ ps) =
    rewritten signs stop (cond (ltb gap stop) (written (signs && not (is_negative p)) row p) row) (gap + suc (length p)) ps
