-- What an answer of `lines` says of its numbers: some lines, none behind the last, within the room.
-- Assumes nothing.
use Rattle.std.specs.Prelude.{Ok, Err}
use mathlib.Core.Path.{◌≡◌, refl, sym, ap, ◌∙◌}
use mathlib.Core.Logic.{⊎_elim}
use mathlib.Core.List.{List, [], ◌∷◌}
use Prim.Native.Nat.{ℕ, ◌+◌, ◌-◌, ◌≤◌}
use native.Mathlib.Omega.{arith}
use borrow.Author.Tests.{le-leb, lt-leb}
use lib.ListN.{length, take, drop, length-append, length-take}
use Rattle.rules.specs.Counting.{joined}
use Rattle.rules.specs.Families.{C}
use Rattle.rules.specs.Text.{header_line, clause_lines}
use Rattle.rules.specs.Calls.{problem_of, header_verdict, clause_line_verdict, fitting, lines_from}
use Rattle.rules.specs.Answers.{Verdict}
use Rattle.rules.proofs.Bools.{below_or}
use Rattle.text.specs.Said.{answered, header_answer, lines_answer, TextAnswer, wrote}
use Rattle.text.proofs.Longest.{all_lines, some_fit}
use Rattle.text.proofs.Answered.{header_room_lem, line_there, line_room_lem}

abbrev verdict_of : TextAnswer → Verdict
verdict_of (Ok run) = Ok tt
verdict_of (Err why) = Err why

-- the lines and the bytes that an answer says were written
abbrev pub lines_of : TextAnswer → ℕ
lines_of (Ok run) = run.lines
lines_of (Err why) = 0

abbrev pub bytes_of : TextAnswer → ℕ
bytes_of (Ok run) = run.bytes
bytes_of (Err why) = 0

verdict_back : (v : Verdict) (lines bytes : ℕ) → verdict_of (answered v lines bytes) ≡ v
verdict_back (Ok _) lines bytes = refl
verdict_back (Err why) lines bytes = refl

module _ (v : Verdict) (lines bytes m b : ℕ) (e : answered v lines bytes ≡ wrote m b) where
  said_accepted : v ≡ Ok tt
  said_accepted = sym (verdict_back v lines bytes) ∙ ap verdict_of e

  said_lines : lines ≡ m
  said_lines = let f : wrote lines bytes ≡ wrote m b = rw said_accepted at e in ap lines_of f

  said_bytes : bytes ≡ b
  said_bytes = let f : wrote lines bytes ≡ wrote m b = rw said_accepted at e in ap bytes_of f

fitting_within : (ls : List (List ℕ)) (room : ℕ) → length (joined (take (fitting room ls) ls)) ≤ room
unfolding fitting joined
fitting_within [] room = omega arith
fitting_within (l ∷ ls) room =
    ⊎_elim
    (λ short. rw (lt-leb (length l) room short) (omega arith))
    (λ fits.
    let rest = fitting_within ls (room - length l) in
    rw (le-leb (length l) room fits) (omega (arith, length-append l (joined (take (fitting (room - length l) ls) ls)))))
    (below_or room (length l))

module _ (file : List ℕ) (k : ℕ) where
  -- the header is within the room
  pub header_within : (room m b : ℕ) (r : TextAnswer) → r ≡ header_answer file k room → r ≡ wrote m b → b ≤ room
  header_within room m b r e f =
      let is = sym e ∙ f in
      omega (
        arith,
        said_bytes (header_verdict file k room) 1 (length (header_line (problem_of file k))) m b is,
        header_room_lem file k room (said_accepted (header_verdict file k room) 1 (length (header_line (problem_of file k))) m b is),
      )

  module _ (c room m b : ℕ) (r : TextAnswer) (e : r ≡ lines_answer file k c room) (f : r ≡ wrote m b) where
    abbrev lines : List (List ℕ)
    lines = lines_from file k c room

    accepted : clause_line_verdict file k c room ≡ Ok tt
    accepted = said_accepted (clause_line_verdict file k c room) (length lines) (length (joined lines)) m b (sym e ∙ f)

    pub lines_are : m ≡ length lines
    lines_are = sym (said_lines (clause_line_verdict file k c room) (length lines) (length (joined lines)) m b (sym e ∙ f))

    pub bytes_are : b ≡ length (joined lines)
    bytes_are = sym (said_bytes (clause_line_verdict file k c room) (length lines) (length (joined lines)) m b (sym e ∙ f))

    pub lines_some : 1 ≤ m
    lines_some =
        omega (
          arith,
          lines_are,
          some_fit file k c room (line_there file k c room accepted) (line_room_lem file k c room accepted),
        )

    pub lines_up_to : c + m ≤ C (problem_of file k)
    unfolding lines_from
    lines_up_to =
        let ls : List (List ℕ) = drop c (clause_lines (problem_of file k)) in
        let some = lines_some in
        omega (arith, lines_are, length-take (fitting room ls) ls, all_lines (problem_of file k) c)

    pub bytes_within : b ≤ room
    unfolding lines_from
    bytes_within = omega (arith, bytes_are, fitting_within (drop c (clause_lines (problem_of file k))) room)
