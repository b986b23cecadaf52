-- Runs of lines: the lines of m clauses from clause c on, and a part of a run in lent room.
-- Assumes nothing.
use Rattle.std.specs.Prelude.{ℕ, ◌+◌, ◌-◌, ◌≤◌, ◌<◌, ◌≡◌, List, length}
use Rattle.rules.specs.Counting.{for_each}
use Rattle.rules.specs.Counts.{pairs_below, number_of_pair}
use Rattle.rules.specs.Problem.{Problem}
use Rattle.rules.specs.Families.{C, clause}
use Rattle.rules.specs.Text.{clause_line}
use Rattle.rules.specs.Calls.{problem_of}
use Rattle.digits.specs.Over.{Wrote}
use Rattle.exclusions.specs.Exclusions.{exclusion_lines}

unfoldable pub run : Problem → (c m : ℕ) → List ℕ
run P c m = for_each m (λ i. clause_line (clause P (c + i)))

-- whole lines from clause c on, from a place on; none only where the first does not fit
pub record PutPart (file : List ℕ) (k c : ℕ) (before : List ℕ) (at lines : ℕ) (after : List ℕ) (end : ℕ) : Type 0 where
  pub wrote : Wrote before at (run (problem_of file k) c lines) after end
  pub up_to : c + lines ≤ C (problem_of file k)
  pub within : end ≤ length before
  pub none : lines ≡ 0 → length before - at < length (clause_line (clause (problem_of file k) c))

-- some lines of the pairs below count from (first, second) on, their numbers counted from base on
pub record PutPairs (base count first second : ℕ) (before : List ℕ) (at lines : ℕ) (after : List ℕ) (end : ℕ) : Type 0 where
  pub wrote : Wrote before at (exclusion_lines base count (number_of_pair count first second) lines) after end
  pub some : 1 ≤ lines
  pub up_to : number_of_pair count first second + lines ≤ pairs_below count
  pub within : end ≤ length before
