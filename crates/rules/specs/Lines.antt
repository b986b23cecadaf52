-- One line of solver output, without its LF: its verdict (refusals 11 to 14), the literals that it names, and the phase after it.
-- Assumes nothing.
use Rattle.std.specs.Prelude.{ℕ, suc, ◌+◌, ◌-◌, ◌*◌, min, max, Bool, true, false, cond, not, ◌&&◌, ◌||◌, leb, ltb, eqb, length, drop, Ok, Err}
use Prim.Native.Char.{code}
use mathlib.Core.List.{List, [], ◌∷◌, ◌++◌, foldl, tail}
use Rattle.rules.specs.Counting.{first, any}
use Rattle.rules.specs.Limits.{max_line, max_digits}
use Rattle.rules.specs.Answers.{Rule, demand, judge, in_turn, Verdict, LineAnswer}
use Rattle.rules.specs.File.{byte}
use Rattle.rules.specs.Families.{Literal, plus, minus}
use Rattle.rules.specs.Text.{ascii, space, dash, digit0}
use Rattle.rules.specs.Rows.{Rows, bit_of_variable, store_all, words_for}
use Rattle.rules.specs.declared.Refusal.TheVariants.{Room, Grammar, OutOfPlace, OverN, GivenBefore}
use Rattle.rules.specs.declared.Phase.{Phase}
use Rattle.rules.specs.declared.Phase.TheVariants.{NoStatus, ModelOpen, ModelClosed, SaidUnsatisfiable, SaidUnknown}
use Rattle.rules.specs.declared.Reading.{Reading}

-- ---- pieces

-- b at the front of the first piece
abbrev pub onto : ℕ → List (List ℕ) → List (List ℕ)
onto b [] = (b ∷ []) ∷ []
onto b (p ∷ ps) = (b ∷ p) ∷ ps

-- a text cut at each separator: what stands between them, empty pieces too
unfoldable pub pieces : (separator : ℕ) → List ℕ → List (List ℕ)
pieces separator [] = [] ∷ []
pieces separator (b ∷ s) = let rest : List (List ℕ) = pieces separator s in cond (eqb b separator) ([] ∷ rest) (onto b rest)

-- ---- numbers: 0, or an optional minus, a digit 1 to 9 and at most five more digits

abbrev pub is_digit : ℕ → Bool
is_digit b = leb digit0 b && leb b (digit0 + 9)

abbrev pub is_negative : List ℕ → Bool
is_negative w = eqb (byte w 0) dash

abbrev pub sign_bytes : List ℕ → ℕ
sign_bytes w = cond (is_negative w) 1 0

abbrev pub digits : List ℕ → List ℕ
digits w = drop (sign_bytes w) w

-- how many of its first bytes can begin a number: behind a minus no 0, behind a first 0 nothing
unfoldable pub reach : List ℕ → ℕ
reach w =
    cond (eqb (byte (digits w) 0) digit0) 1
    (sign_bytes w + min max_digits (first (length (digits w)) (λ i. not (is_digit (byte (digits w) i)))))

unfoldable pub is_number : List ℕ → Bool
is_number w = eqb (reach w) (length w) && ltb (sign_bytes w) (reach w)

unfoldable pub value_from : ℕ → List ℕ → ℕ
value_from m [] = m
value_from m (b ∷ s) = value_from (10 * m + (b - digit0)) s

-- the variable that a number names; 0 for the closing 0
unfoldable pub variable_of : List ℕ → ℕ
variable_of w = value_from 0 (digits w)

unfoldable pub literal_of : List ℕ → Literal
literal_of w = cond (is_negative w) (minus (variable_of w)) (plus (variable_of w))

-- ---- the numbers of a "v" line, from left to right

abbrev pub names : ℕ → Literal → Bool
names v (plus u) = eqb u v
names v (minus u) = eqb u v

-- what has been read of the line: where the next piece begins, whether 0 has closed the model, and the literals in their order
pub record Scan : Type 0 where
  pub verdict : Verdict
  pub at : ℕ
  pub closed : Bool
  pub named : List Literal

-- a number is judged whole: 11 inside it or at the byte after it, then 12, 13 and 14
unfoldable pub word_rules : (highest : ℕ) (given : List ℕ) → Scan → List ℕ → List Rule
word_rules highest given scan w =
    demand (is_number w) (Grammar (scan.at + reach w))
    ∷ demand (not scan.closed) (OutOfPlace scan.at)
    ∷ demand (leb (variable_of w) highest) (OverN scan.at)
    ∷ demand (eqb (variable_of w) 0 || not (bit_of_variable given (variable_of w) || any (names (variable_of w)) scan.named)) (GivenBefore scan.at)
    ∷ []

unfoldable pub scan_word : (highest : ℕ) (given : List ℕ) → Scan → List ℕ → Scan
scan_word highest given scan w =
    record {
      verdict = judge (word_rules highest given scan w);
      at = scan.at + length w + 1;
      closed = scan.closed || eqb (variable_of w) 0;
      named = cond (eqb (variable_of w) 0) scan.named (scan.named ++ (literal_of w ∷ []));
    }

-- an empty piece stands between two spaces in a row
unfoldable pub scan_piece : (highest : ℕ) (given : List ℕ) → Scan → List ℕ → Scan
scan_piece highest given scan [] = record { verdict = scan.verdict; at = scan.at + 1; closed = scan.closed; named = scan.named }
scan_piece highest given scan (b ∷ w) = scan_word highest given scan (b ∷ w)

-- the leftmost fault ends the scan
abbrev pub go_on : Verdict → Scan → Scan → Scan
go_on (Ok _) next scan = next
go_on (Err why) next scan = scan

unfoldable pub scan_pieces : (highest : ℕ) (given : List ℕ) → Scan → List (List ℕ) → Scan
scan_pieces highest given scan ps = foldl (λ s p. go_on s.verdict (scan_piece highest given s p) s) scan ps

-- behind the "v" and a space
abbrev pub scan_start : Scan
scan_start = record { verdict = Ok tt; at = 2; closed = false; named = [] }

-- the scan of a whole "v" line
unfoldable pub scan_line : (highest : ℕ) (given : List ℕ) → List ℕ → Scan
scan_line highest given line = scan_pieces highest given scan_start (tail (pieces space line))

-- ---- status lines

-- how many first bytes two texts share
unfoldable pub agree : List ℕ → List ℕ → ℕ
agree [] t = 0
agree (a ∷ s) [] = 0
agree (a ∷ s) (b ∷ t) = cond (eqb a b) (suc (agree s t)) 0

unfoldable pub same : List ℕ → List ℕ → Bool
same s t = eqb (agree s t) (length s) && eqb (agree s t) (length t)

unfoldable pub says_satisfiable : List ℕ
says_satisfiable = ascii "s SATISFIABLE"

unfoldable pub says_unsatisfiable : List ℕ
says_unsatisfiable = ascii "s UNSATISFIABLE"

unfoldable pub says_unknown : List ℕ
says_unknown = ascii "s UNKNOWN"

unfoldable pub is_status : List ℕ → Bool
is_status line = same line says_satisfiable || same line says_unsatisfiable || same line says_unknown

-- the first byte that cannot continue a status line, or the length
unfoldable pub status_reach : List ℕ → ℕ
status_reach line = max (agree line says_satisfiable) (max (agree line says_unsatisfiable) (agree line says_unknown))

unfoldable pub phase_said : List ℕ → Phase
phase_said line = cond (same line says_satisfiable) ModelOpen (cond (same line says_unsatisfiable) SaidUnsatisfiable SaidUnknown)

-- ---- the line

abbrev pub awaits_status : Phase → Bool
awaits_status NoStatus = true
awaits_status ModelOpen = false
awaits_status ModelClosed = false
awaits_status SaidUnsatisfiable = false
awaits_status SaidUnknown = false

abbrev pub awaits_numbers : Phase → Bool
awaits_numbers NoStatus = false
awaits_numbers ModelOpen = true
awaits_numbers ModelClosed = false
awaits_numbers SaidUnsatisfiable = false
awaits_numbers SaidUnknown = false

pub data Kind : Type 0 where
  comment status numbers neither : Kind

-- a line's kind is told by its first byte alone
unfoldable pub kind_of : List ℕ → Kind
kind_of line =
    cond (eqb (byte line 0) (code "c")) comment
    (cond (eqb (byte line 0) (code "s")) status
    (cond (eqb (byte line 0) (code "v")) numbers neither))

unfoldable pub kind_verdict : Kind → Reading → (given : List ℕ) → List ℕ → Verdict
kind_verdict comment reading given line = judge (demand (eqb (length line) 1 || eqb (byte line 1) space) (Grammar 1) ∷ [])
kind_verdict status reading given line =
    judge (demand (awaits_status reading.phase) (OutOfPlace 0) ∷ demand (is_status line) (Grammar (status_reach line)) ∷ [])
kind_verdict numbers reading given line =
    in_turn
    (judge (demand (awaits_numbers reading.phase) (OutOfPlace 0) ∷ demand (eqb (length line) 1 || eqb (byte line 1) space) (Grammar 1) ∷ []))
    (scan_line reading.highest given line).verdict
kind_verdict neither reading given line = Err (Grammar 0)

-- the overlong case is first, then the leftmost fault
unfoldable pub line_verdict : Reading → (given : List ℕ) → List ℕ → Verdict
line_verdict reading given line =
    in_turn (judge (demand (leb (length line) max_line) (Grammar max_line) ∷ [])) (kind_verdict (kind_of line) reading given line)

unfoldable pub phase_after : Kind → Reading → (given : List ℕ) → List ℕ → Phase
phase_after comment reading given line = reading.phase
phase_after status reading given line = phase_said line
phase_after numbers reading given line = cond (scan_line reading.highest given line).closed ModelClosed ModelOpen
phase_after neither reading given line = reading.phase

-- the literals that the line names
unfoldable pub named : Kind → Reading → (given : List ℕ) → List ℕ → List Literal
named comment reading given line = []
named status reading given line = []
named numbers reading given line = (scan_line reading.highest given line).named
named neither reading given line = []

-- ---- the call: both rows have to be long enough; a refused line stores nothing

pub record Progress : Type 0 where
  pub answer : LineAnswer
  pub rows : Rows

unfoldable pub rows_fit : ℕ → Rows → Bool
rows_fit m rows = leb (words_for m) (length rows.given) && leb (words_for m) (length rows.is_true)

abbrev pub progress : Verdict → Reading → List Literal → Rows → Progress
progress (Ok _) next ls rows = record { answer = Ok next; rows = store_all rows ls }
progress (Err why) next ls rows = record { answer = Err why; rows = rows }

unfoldable pub read_line : Reading → Rows → List ℕ → Progress
read_line reading rows line =
    progress
    (in_turn (judge (demand (rows_fit reading.highest rows) Room ∷ [])) (line_verdict reading rows.given line))
    (record { highest = reading.highest; phase = phase_after (kind_of line) reading rows.given line })
    (named (kind_of line) reading rows.given line)
    rows
