-- The next lines: in room for any line they are not refused, their bytes are within the room, and they end before the last or with it.
-- Assumes nothing.
use Rattle.std.specs.Prelude.{Ok, Err}
use mathlib.Core.Path.{◌≡◌, refl, sym, ap, ◌∙◌}
use mathlib.Core.List.{List, [], ◌∷◌, ◌++◌}
use Prim.Native.Nat.{ℕ, suc, ◌+◌, ◌-◌, ◌≤◌, ◌<◌}
use native.Mathlib.Omega.{arith}
use lib.ListN.{length, take, drop, length-append, length-drop}
use lib.Seq.{length-take-le}
use mir.Syntax.{w64}
use mir.Val.{Fits}
use Rattle.rules.specs.Limits.{max_horizon}
use Rattle.rules.specs.Numbering.{N}
use Rattle.rules.specs.Families.{C}
use Rattle.rules.specs.Text.{ascii, lf, space, decimal, header_line, refusal_line}
use Rattle.rules.specs.Calls.{problem_of, problem_verdict, header_verdict, clause_line_verdict}
use Rattle.rules.specs.declared.Refusal.{Refusal}
use Rattle.rules.specs.Answers.{Verdict}
use Rattle.rules.proofs.Decimal.{decimal_few}
use Rattle.task.specs.Index.{Indexed}
use Rattle.task.proofs.Stated.{problem_accepted}
use Rattle.digits.specs.Over.{over}
use Rattle.lines.specs.Written.{line_room}
use Rattle.text.specs.declared.runs.Run.{Run}
use Rattle.text.specs.Said.{answered, header_answer, lines_answer, TextAnswer}
use Rattle.text.specs.Heading.{header_start}
use Rattle.text.proofs.Heading.{variables_most, clauses_most}
use Rattle.text.proofs.Answered.{header_fits, line_fits}
use Rattle.text.proofs.Room.{line_most}
use Rattle.text.proofs.Taken.{lines_of, header_within, lines_some, lines_up_to, bytes_within}
use Rattle.clauses.specs.Printed.{lines_printed}

pub prefix_long : (l : List ℕ) (k : ℕ) → k ≤ length l → k ≡ length (take k l)
prefix_long l k h = sym (length-take-le k l h)

-- what was written over the front of a room was within it
pub refusal_here : (room after : List ℕ) (why : Refusal) (end : ℕ) → after ≡ over room 0 (refusal_line why) → length after ≡ length room
    → end ≡ length (refusal_line why) → end ≤ length after
unfolding over
refusal_here room after why end e h f =
    let line : List ℕ = refusal_line why in
    omega (arith, ap length e, length-append line (drop (0 + length line) room), length-drop (0 + length line) room)

pub lines_within : (file : List ℕ) (k c room : ℕ) (run : Run) (r : TextAnswer) (after : List ℕ) → r ≡ lines_answer file k c room → r ≡ Ok run
    → length after ≡ room → run.bytes ≤ length after
lines_within file k c room run r after e f h = omega (arith, bytes_within file k c room run.lines run.bytes r e f)

pub header_here : (file : List ℕ) (k room : ℕ) (run : Run) (r : TextAnswer) (after : List ℕ) → r ≡ header_answer file k room → r ≡ Ok run
    → length after ≡ room → run.bytes ≤ length after
header_here file k room run r after e f h = omega (arith, header_within file k room run.lines run.bytes r e f)

-- ---- how many lines were printed

module _ (v w : Verdict) (clauses : ℕ) (e : v ≡ w) where
  pub refusal_counted : (why : Refusal) → v ≡ Err why → 1 ≡ lines_printed w clauses
  refusal_counted why f = rw (← e, f)

  pub text_counted : (r : ℕ) → v ≡ Ok tt → r ≡ suc clauses → r ≡ lines_printed w clauses
  text_counted r f g = rw (← e, f) g

-- ---- in room for any line neither the header nor a line is refused

abbrev refusals : TextAnswer → ℕ
refusals (Ok run) = 0
refusals (Err why) = 1

not_refused : (v : Verdict) (m b : ℕ) (r : TextAnswer) (why : Refusal) → r ≡ answered v m b → r ≡ Err why → v ≡ Ok tt → ⊥
not_refused v m b r why e f ok =
    let said : refusals (answered v m b) ≡ 1 = ap refusals (sym e ∙ f) in
    let none : refusals (answered v m b) ≡ 0 = rw ok in
    omega arith

module _ (file index : List ℕ) (k room : ℕ) (ix : Indexed file index) (hk : k ≤ max_horizon) (wide : line_room ≤ room) where
  fine : problem_verdict file k ≡ Ok tt
  fine = problem_accepted file k ix.accepted hk

  header_short : length (header_line (problem_of file k)) ≤ room
  unfolding header_line ascii
  header_short =
      let v : ℕ = N (problem_of file k) in
      let c : ℕ = C (problem_of file k) in
      let front : List ℕ = header_start ++ decimal v in
      omega (
        arith,
        length-append (front ++ (space ∷ []) ++ decimal c) (lf ∷ []),
        length-append (front ++ (space ∷ [])) (decimal c),
        length-append front (space ∷ []),
        length-append header_start (decimal v),
        decimal_few 7 v (omega (arith, variables_most file index k ix hk v refl)),
        decimal_few 7 c (omega (arith, clauses_most file index k ix hk c refl)),
      )

  header_passed : header_verdict file k room ≡ Ok tt
  header_passed = header_fits file k room fine header_short

  pub header_refused : (r : TextAnswer) (why : Refusal) → r ≡ header_answer file k room → r ≡ Err why → 0 ≡ suc (C (problem_of file k))
  header_refused r why e f = absurd (not_refused (header_verdict file k room) _ _ r why e f header_passed)

  module _ (run : Run) (n : ℕ) (r : TextAnswer) (e : r ≡ header_answer file k room) (f : r ≡ Ok run) (en : n ≡ C (problem_of file k)) where
    header_one : 1 ≡ run.lines
    header_one =
        let one : lines_of (header_answer file k room) ≡ 1 = rw header_passed in
        sym one ∙ ap lines_of (sym e ∙ f)

    pub with_header : run.lines + n ≡ suc (C (problem_of file k))
    with_header = omega (arith, header_one)

    pub with_header_fits : Fits w64 (run.lines + n)
    with_header_fits = record { fits = omega (arith, header_one, clauses_most file index k ix hk n en) }

  pub lines_refused : (c all : ℕ) (r : TextAnswer) (why : Refusal) → all ≡ C (problem_of file k) → c < all
      → r ≡ lines_answer file k c room → r ≡ Err why → c ≡ C (problem_of file k)
  lines_refused c all r why ea h e f =
      let there : c < C (problem_of file k) = omega arith in
      absurd (not_refused (clause_line_verdict file k c room) _ _ r why e f
      (line_fits file k c room fine there (omega (arith, line_most file k c fine there))))

module _ (file index : List ℕ) (k all : ℕ) (ix : Indexed file index) (hk : k ≤ max_horizon) (ea : all ≡ C (problem_of file k)) where
  module _ (c room : ℕ) (run : Run) (r : TextAnswer) (e : r ≡ lines_answer file k c room) (f : r ≡ Ok run) where
    pub next_below : c + run.lines ≤ all
    next_below = omega (arith, lines_up_to file k c room run.lines run.bytes r e f)

    pub next_fits : Fits w64 (c + run.lines)
    next_fits = record { fits = omega (arith, next_below, clauses_most file index k ix hk all ea) }

    pub next_less : c < all → all - (c + run.lines) < all - c
    next_less h = omega (arith, lines_some file k c room run.lines run.bytes r e f)
