-- Demand 2, first sentence, of text: the header and over all c below C the lines that `clause_line` writes are the formula's text, in order; so are
-- the header and what calls of `lines` write, each beginning behind the lines of the one before, whatever room each is lent that takes any line.
-- Assumes nothing.
use Rattle.std.specs.Prelude.{Ok, Err}
use mathlib.Core.Path.{◌≡◌, sym, ap, ◌∙◌}
use mathlib.Core.List.{List, [], ◌++◌}
use Prim.Native.Nat.{ℕ, zero, suc, ◌+◌, ◌≤◌, ◌<◌}
use native.Mathlib.Omega.{arith}
use native.Mathlib.Nat.{zero-add}
use lib.ListN.{length, take, drop}
use lib.Seq.{take-append_seam}
use Rattle.rules.specs.Counting.{for_each, sum_to, joined}
use Rattle.rules.specs.Problem.{Problem}
use Rattle.rules.specs.Families.{C, clause, formula}
use Rattle.rules.specs.Text.{header_line, clause_line, clause_lines, formula_text}
use Rattle.rules.specs.Calls.{problem_of, problem_verdict, lent_after, header_verdict, clause_line_verdict, lines_from, header_after, clause_line_after, lines_after}
use Rattle.rules.specs.Answers.{Verdict}
use Rattle.rules.proofs.Counting.{for_each-ext, for_each-joined}
use Rattle.lines.specs.Written.{line_room}
use Rattle.parts.specs.Runs.{run}
use Rattle.parts.proofs.OneLine.{no_line}
use Rattle.text.specs.Said.{answered, header_answer, clause_line_answer, lines_answer, TextAnswer}
use Rattle.text.proofs.Longest.{run_taken, some_fit, lines_most}
use Rattle.text.proofs.Running.{run_append}
use Rattle.text.proofs.Answered.{header_fits, line_fits}
use Rattle.text.proofs.Taken.{lines_of}
use Rattle.text.proofs.calls.header.Reads as header
use Rattle.text.proofs.calls.clause_line.Reads as clause-line
use Rattle.text.proofs.calls.lines.Reads as lines
use Rattle.text.proofs.Room.{line_most}

-- the bytes that an answer says were written
abbrev pub text_of : TextAnswer → List ℕ → List ℕ
text_of (Ok run) left = take run.bytes left
text_of (Err why) left = []

-- what each call promises of its answer and of the lent room that it leaves, word for word from its contract
abbrev pub HeaderPromised : (file : List ℕ) (k : ℕ) (lent : List ℕ) → TextAnswer → (left : List ℕ) → Type 0
HeaderPromised file k lent r left = (r ≡ header_answer file k (length lent)) × (left ≡ header_after file k lent)

abbrev pub LinePromised : (file : List ℕ) (k c : ℕ) (lent : List ℕ) → TextAnswer → (left : List ℕ) → Type 0
LinePromised file k c lent r left = (r ≡ clause_line_answer file k c (length lent)) × (left ≡ clause_line_after file k c lent)

abbrev pub LinesPromised : (file : List ℕ) (k c : ℕ) (lent : List ℕ) → TextAnswer → (left : List ℕ) → Type 0
LinesPromised file k c lent r left = (r ≡ lines_answer file k c (length lent)) × (left ≡ lines_after file k c lent)

-- and so they are
pub header_promises : (κs : _) (a : _) (r : TextAnswer) (x : _) → header.Post κs a r x → HeaderPromised a.0.now a.1.0 a.1.1.0.now r x.1.1.0.now
header_promises κs a r x p = p

pub line_promises : (κs : _) (a : _) (r : TextAnswer) (x : _) → clause-line.Post κs a r x
    → LinePromised a.0.now a.1.0 a.1.1.0 a.1.1.1.0.now r x.1.1.1.0.now
line_promises κs a r x p = p

pub lines_promise : (κs : _) (a : _) (r : TextAnswer) (x : _) → lines.Post κs a r x
    → LinesPromised a.0.now a.1.0 a.1.1.0 a.1.1.1.0.now r x.1.1.1.0.now
lines_promise κs a r x p = p

-- an accepted call's text stands in front of the room
written_first : (v : Verdict) (lines : ℕ) (made lent : List ℕ) → v ≡ Ok tt → text_of (answered v lines (length made)) (lent_after v made lent) ≡ made
written_first v lines made lent e = rw e (take-append_seam made (drop (length made) lent))

module _ (file : List ℕ) (k : ℕ) (ok : problem_verdict file k ≡ Ok tt) where
  abbrev P : Problem
  P = problem_of file k

  pub the_header : (lent left : List ℕ) (r : TextAnswer) → length (header_line P) ≤ length lent → HeaderPromised file k lent r left
      → text_of r left ≡ header_line P
  the_header lent left r room p =
      rw (p.0, p.1) (written_first (header_verdict file k (length lent)) 1 (header_line P) lent (header_fits file k (length lent) ok room))

  pub each_line : (c : ℕ) (lent left : List ℕ) (r : TextAnswer) → c < C P → line_room ≤ length lent → LinePromised file k c lent r left
      → text_of r left ≡ clause_line (clause P c)
  each_line c lent left r h wide p =
      let room : length (clause_line (clause P c)) ≤ length lent = omega (arith, line_most file k c ok h) in
      rw (p.0, p.1)
      (written_first (clause_line_verdict file k c (length lent)) 1 (clause_line (clause P c)) lent (line_fits file k c (length lent) ok h room))

  all_lines_are : for_each (C P) (λ c. clause_line (clause P c)) ≡ joined (clause_lines P)
  unfolding C clause clause_lines
  all_lines_are = for_each-joined clause_line (formula P) []

  -- one clause after the other gives the formula's text
  pub the_text : (lent left : ℕ → List ℕ) (r : ℕ → TextAnswer) (lent₀ left₀ : List ℕ) (r₀ : TextAnswer)
      → length (header_line P) ≤ length lent₀ → HeaderPromised file k lent₀ r₀ left₀
      → ((c : ℕ) → c < C P → line_room ≤ length (lent c)) → ((c : ℕ) → c < C P → LinePromised file k c (lent c) (r c) (left c))
      → text_of r₀ left₀ ++ for_each (C P) (λ c. text_of (r c) (left c)) ≡ formula_text P
  unfolding formula_text
  the_text lent left r lent₀ left₀ r₀ room₀ p₀ wide p =
      rw (the_header lent₀ left₀ r₀ room₀ p₀)
      (ap (λ t. header_line P ++ t)
      (for_each-ext (C P) (λ c. text_of (r c) (left c)) (λ c. clause_line (clause P c)) (λ c h. each_line c (lent c) (left c) (r c) h (wide c h) (p c h))
      ∙ all_lines_are))

  -- ---- many lines at a call

  module _ (c : ℕ) (lent left : List ℕ) (r : TextAnswer) (h : c < C P) (wide : line_room ≤ length lent) (p : LinesPromised file k c lent r left) where
    room : length (clause_line (clause P c)) ≤ length lent
    room = omega (arith, line_most file k c ok h)

    fine : clause_line_verdict file k c (length lent) ≡ Ok tt
    fine = line_fits file k c (length lent) ok h room

    counted : lines_of r ≡ length (lines_from file k c (length lent))
    counted = rw (p.0, fine)

    -- some lines, none behind the last, and they are the next ones
    pub run_some : 1 ≤ lines_of r
    run_some = omega (arith, counted, some_fit file k c (length lent) h room)

    pub run_up_to : c + lines_of r ≤ C P
    run_up_to = omega (arith, counted, lines_most file k c (length lent) h)

    pub run_text_lem : text_of r left ≡ run P c (lines_of r)
    run_text_lem =
        rw (p.0, p.1)
        (written_first (clause_line_verdict file k c (length lent)) (length (lines_from file k c (length lent))) (joined (lines_from file k c (length lent))) lent fine)
        ∙ run_taken file k c (length lent) h
        ∙ ap (run P c) (sym counted)

  -- calls one after the other: call i begins behind the lines of those before it
  module _ (lent left : ℕ → List ℕ) (r : ℕ → TextAnswer) where
    abbrev pub before : ℕ → ℕ
    before i = sum_to i (λ j. lines_of (r j))

    -- the first m calls all began below C, in room that takes any line
    abbrev pub Called : ℕ → Type 0
    Called m = (i : ℕ) → i < m → (before i < C P) × (line_room ≤ length (lent i)) × LinesPromised file k (before i) (lent i) (r i) (left i)

    run_so_far : (m : ℕ) → Called m → for_each m (λ i. text_of (r i) (left i)) ≡ run P 0 (before m)
    unfolding for_each sum_to
    run_so_far zero called = sym (no_line P 0)
    run_so_far (suc m) called =
        let here = called m (omega arith) in
        rw (run_so_far m (λ i b. called i (omega arith)), run_append P 0 (before m) (lines_of (r m)), zero-add (before m))
        (ap (λ t. run P 0 (before m) ++ t) (run_text_lem (before m) (lent m) (left m) (r m) here.0 here.1 here.2))

    -- each call goes on, and none behind the last line, so that calls come to an end
    pub goes_on : (m : ℕ) → Called (suc m) → (before m < before (suc m)) × (before (suc m) ≤ C P)
    unfolding sum_to
    goes_on m called =
        let here = called m (omega arith) in
        let some = run_some (before m) (lent m) (left m) (r m) here.0 here.1 here.2 in
        (omega arith, run_up_to (before m) (lent m) (left m) (r m) here.0 here.1 here.2)

    -- and where they have, they gave the formula's text
    pub the_runs : (m : ℕ) (lent₀ left₀ : List ℕ) (r₀ : TextAnswer) → length (header_line P) ≤ length lent₀ → HeaderPromised file k lent₀ r₀ left₀
        → Called m → before m ≡ C P → text_of r₀ left₀ ++ for_each m (λ i. text_of (r i) (left i)) ≡ formula_text P
    unfolding formula_text run
    the_runs m lent₀ left₀ r₀ room₀ p₀ called all =
        rw (the_header lent₀ left₀ r₀ room₀ p₀)
        (ap (λ t. header_line P ++ t)
        (run_so_far m called
        ∙ ap (run P 0) all
        ∙ for_each-ext (C P) (λ i. clause_line (clause P (0 + i))) (λ c. clause_line (clause P c)) (λ i h. ap (λ j. clause_line (clause P j)) (omega arith))
        ∙ all_lines_are))
