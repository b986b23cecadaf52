-- No line of an accepted file's formula is longer than the room that surely suffices for one.
-- Assumes nothing.
use Rattle.std.specs.Prelude.{Ok}
use mathlib.Core.Path.{◌≡◌, refl}
use mathlib.Core.Bool.{true}
use mathlib.Core.List.{List, [], ◌∷◌, ◌++◌, map}
use Prim.Native.Nat.{ℕ, suc, ◌+◌, ◌*◌, ◌≤◌, ◌<◌}
use native.Mathlib.Omega.{arith}
use borrow.Author.Tests.{leb-true}
use lib.Dec.{leb}
use lib.ListN.{length, length-append}
use Rattle.rules.specs.Limits.{max_n}
use Rattle.rules.specs.Counting.{joined, every}
use Rattle.rules.specs.Problem.{Problem}
use Rattle.rules.specs.Numbering.{N}
use Rattle.rules.specs.Families.{Literal, plus, minus, Clause, C, clause, formula}
use Rattle.rules.specs.Text.{space, digit0, lf, decimal, literal_text, clause_line}
use Rattle.rules.specs.File.{task_of}
use Rattle.rules.specs.Calls.{problem_of, problem_verdict}
use Rattle.rules.proofs.Bools.{and_left, and_right}
use Rattle.rules.proofs.Counting.{every_get_or}
use Rattle.rules.proofs.Decimal.{decimal_few}
use Rattle.rules.proofs.Within.{variable_in, is_within, all_within, all_within_lem}
use Rattle.rules.proofs.Bounds.{N-bound, clause_bound}
use Rattle.rules.proofs.Files.{accepted_well_formed}
use Rattle.task.proofs.Stated.{file_accepted, horizon_right}
use Rattle.lines.specs.Written.{literal_room, end_room, line_room}

literal_few : (l : Literal) → variable_in l ≤ max_n → length (literal_text l ++ (space ∷ [])) ≤ literal_room
unfolding literal_text
literal_few (plus v) h = omega (arith, decimal_few 4 v (omega arith), length-append (decimal v) (space ∷ []))
literal_few (minus v) h = omega (arith, decimal_few 4 v (omega arith), length-append (decimal v) (space ∷ []))

module _ (P : Problem) (most : N P ≤ max_n) where
  number_few : (l : Literal) → is_within P l ≡ true → variable_in l ≤ max_n
  unfolding is_within
  number_few l h = omega (arith, leb-true (variable_in l) (N P) (and_right (leb 1 (variable_in l)) (leb (variable_in l) (N P)) h))

  literals_few : (c : Clause) → every (is_within P) c ≡ true → length (clause_line c) ≤ length c * literal_room + end_room
  unfolding clause_line joined every
  literals_few [] h = omega arith
  literals_few (l ∷ c) h =
      let rest = literals_few c (and_right (is_within P l) (every (is_within P) c) h) in
      let first = literal_few l (number_few l (and_left (is_within P l) (every (is_within P) c) h)) in
      sum (literal_text l ++ (space ∷ [])) (joined (map (λ l. literal_text l ++ (space ∷ [])) c)) (digit0 ∷ lf ∷ []) (length c) first rest
    where
      sum : (x y z : List ℕ) (m : ℕ) → length x ≤ literal_room → length (y ++ z) ≤ m * literal_room + end_room → length ((x ++ y) ++ z) ≤ suc m * literal_room + end_room
      sum x y z m h l = omega (arith, length-append (x ++ y) z, length-append x y, length-append y z)

pub line_most : (file : List ℕ) (k c : ℕ) → problem_verdict file k ≡ Ok tt → c < C (problem_of file k) → length (clause_line (clause (problem_of file k) c)) ≤ line_room
unfolding problem_of clause C
line_most file k c ok h =
    let fine = accepted_well_formed file (file_accepted file k (problem_verdict file k) refl ok) in
    let most = N-bound (task_of file) fine k (horizon_right file k (problem_verdict file k) refl ok) in
    let few = clause_bound (problem_of file k) fine c h in
    let each = every_get_or (all_within (problem_of file k)) (formula (problem_of file k)) [] (all_within_lem (problem_of file k) fine) c h in
    omega (arith, literals_few (problem_of file k) most (clause (problem_of file k) c) each)
