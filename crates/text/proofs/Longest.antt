-- The longest run of lines that fits is the run whose next line does not fit.
-- Assumes nothing.
use mathlib.Core.Path.{◌≡◌, refl, ap, ◌∙◌}
use mathlib.Core.Logic.{⊎_elim}
use mathlib.Core.List.{List, [], ◌∷◌, ◌++◌, append_assoc, append-nil}
use Prim.Native.Nat.{ℕ, zero, suc, ◌+◌, ◌-◌, ◌≤◌, ◌<◌}
use native.Mathlib.Omega.{arith}
use borrow.Author.Tests.{le-leb, lt-leb}
use lib.ListN.{length, get_or, take, drop, length-append, length-map, length-take, length-drop, get_or-map}
use lib.Seq.{take-suc, get_or-drop, drop-cons}
use Rattle.rules.specs.Counting.{for_each, joined}
use Rattle.rules.specs.Problem.{Problem}
use Rattle.rules.specs.Families.{C, clause, formula}
use Rattle.rules.specs.Text.{clause_line, clause_lines}
use Rattle.rules.specs.Calls.{problem_of, fitting, lines_from}
use Rattle.rules.proofs.Bools.{below_or}
use Rattle.parts.specs.Runs.{run}

-- ---- the longest run that fits

joined_append : (ls ms : List (List ℕ)) → joined (ls ++ ms) ≡ joined ls ++ joined ms
unfolding joined
joined_append [] ms = refl
joined_append (l ∷ ls) ms = rw (joined_append ls ms, append_assoc l (joined ls) (joined ms))

fitting_is : (ls : List (List ℕ)) (room m : ℕ) → m ≤ length ls → length (joined (take m ls)) ≤ room
    → (m < length ls → room < length (joined (take (suc m) ls))) → fitting room ls ≡ m
unfolding fitting joined
fitting_is [] room m h fits next = omega arith
fitting_is (l ∷ ls) room zero h fits next =
    let long : room < length (l ++ []) = next (omega arith) in
    let e : length (l ++ []) ≡ length l = ap length (append-nil l) in
    rw (lt-leb (length l) room (omega arith))
fitting_is (l ∷ ls) room (suc m) h fits next =
    let e : length (l ++ joined (take m ls)) ≡ length l + length (joined (take m ls)) = length-append l (joined (take m ls)) in
    let f : length (l ++ joined (take (suc m) ls)) ≡ length l + length (joined (take (suc m) ls)) = length-append l (joined (take (suc m) ls)) in
    let rest : fitting (room - length l) ls ≡ m =
    fitting_is ls (room - length l) m (omega arith) (omega arith) (λ b. let n = next (omega arith) in omega arith) in
    rw (le-leb (length l) room (omega arith), rest)

-- ---- the lines from clause c on

module _ (P : Problem) where
  pub line_at : (c i : ℕ) → get_or (drop c (clause_lines P)) i (clause_line []) ≡ clause_line (clause P (c + i))
  unfolding clause_lines clause
  line_at c i = get_or-drop c (clause_lines P) i (clause_line []) ∙ get_or-map clause_line (formula P) (c + i) []

  pub all_lines : (c : ℕ) → length (drop c (clause_lines P)) ≡ C P - c
  unfolding clause_lines C
  all_lines c = length-drop c (clause_lines P) ∙ ap (λ n. n - c) (length-map (formula P) clause_line)

  run_is : (c m : ℕ) → c + m ≤ C P → joined (take m (drop c (clause_lines P))) ≡ run P c m
  unfolding run for_each joined
  run_is c zero h = refl
  run_is c (suc m) h =
      let l : m < length (drop c (clause_lines P)) = omega (arith, all_lines c) in
      rw (take-suc (drop c (clause_lines P)) m (clause_line []) l, joined_append (take m (drop c (clause_lines P))) (get_or (drop c (clause_lines P)) m (clause_line []) ∷ []), append-nil (get_or (drop c (clause_lines P)) m (clause_line [])), line_at c m, run_is c m (omega arith))

pub longest : (file : List ℕ) (k c room m : ℕ) → c + m ≤ C (problem_of file k) → length (run (problem_of file k) c m) ≤ room
    → (c + m < C (problem_of file k) → room < length (run (problem_of file k) c (suc m)))
    → (joined (lines_from file k c room) ≡ run (problem_of file k) c m) × (length (lines_from file k c room) ≡ m)
unfolding lines_from
longest file k c room m h fits next =
    let P : Problem = problem_of file k in
    let ls : List (List ℕ) = drop c (clause_lines P) in
    let all : length ls ≡ C P - c = all_lines P c in
    let f : fitting room ls ≡ m =
    fitting_is ls room m (omega arith) (rw (run_is P c m h) fits) (λ b. rw (run_is P c (suc m) (omega arith)) (next (omega arith))) in
    (rw f (run_is P c m h), rw f (length-take m ls ∙ omega arith))

-- ---- no line fits if the first does not, and some if it does

first_line : (P : Problem) (c : ℕ) → c < C P → drop c (clause_lines P) ≡ clause_line (clause P c) ∷ drop (suc c) (clause_lines P)
first_line P c h =
    drop-cons (clause_lines P) c (clause_line []) (omega (arith, all_lines P 0))
    ∙ ap (λ l. l ∷ drop (suc c) (clause_lines P)) (line_at P 0 c ∙ ap (λ i. clause_line (clause P i)) (omega arith))

module _ (file : List ℕ) (k c room : ℕ) (h : c < C (problem_of file k)) where
  pub none_fits : room < length (clause_line (clause (problem_of file k) c)) → lines_from file k c room ≡ []
  unfolding lines_from fitting
  none_fits s = rw (first_line (problem_of file k) c h, lt-leb (length (clause_line (clause (problem_of file k) c))) room s)

  pub some_fit : length (clause_line (clause (problem_of file k) c)) ≤ room → 1 ≤ length (lines_from file k c room)
  unfolding lines_from fitting
  some_fit s = rw (first_line (problem_of file k) c h, le-leb (length (clause_line (clause (problem_of file k) c))) room s) (omega arith)

  -- the lines that fit are a run
  abbrev lines : List (List ℕ)
  lines = drop c (clause_lines (problem_of file k))

  fitting_most : (ls : List (List ℕ)) (room : ℕ) → fitting room ls ≤ length ls
  unfolding fitting
  fitting_most [] room = omega arith
  fitting_most (l ∷ ls) room =
      ⊎_elim
      (λ short. rw (lt-leb (length l) room short) (omega arith))
      (λ fits. let rest = fitting_most ls (room - length l) in rw (le-leb (length l) room fits) (omega arith))
      (below_or room (length l))

  pub lines_most : c + length (lines_from file k c room) ≤ C (problem_of file k)
  unfolding lines_from
  lines_most = omega (arith, h, length-take (fitting room lines) lines, all_lines (problem_of file k) c, fitting_most lines room)

  pub run_taken : joined (lines_from file k c room) ≡ run (problem_of file k) c (length (lines_from file k c room))
  unfolding lines_from
  run_taken =
      let many : length (take (fitting room lines) lines) ≡ fitting room lines =
      length-take (fitting room lines) lines ∙ omega (arith, fitting_most lines room) in
      rw many (run_is (problem_of file k) c (fitting room lines) (omega (arith, h, all_lines (problem_of file k) c, fitting_most lines room)))
