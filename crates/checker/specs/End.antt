-- The end of a reading where the file and the horizon are accepted.
-- Assumes nothing.
use Rattle.std.specs.Prelude.{ℕ, ◌&&◌, List, [], ◌∷◌, leb}
use Rattle.rules.specs.Answers.{demand, judge, in_turn, Verdict}
use Rattle.rules.specs.Numbering.{N}
use Rattle.rules.specs.Rows.{Rows}
use Rattle.rules.specs.Lines.{rows_fit}
use Rattle.rules.specs.Output.{outcome}
use Rattle.rules.specs.Calls.{problem_of}
use Rattle.rules.specs.declared.Refusal.TheVariants.{Room}
use Rattle.rules.specs.declared.Phase.{Phase}
pub use Rattle.rows.specs.Lent.{lent}

-- room for the rows and for the entries, then what the reading came to
unfoldable pub end_with : List ℕ → ℕ → Phase → Rows → (room : ℕ) → Verdict
end_with file k phase rows room =
    in_turn (judge (demand (rows_fit (N (problem_of file k)) rows && leb k room) Room ∷ [])) (outcome (problem_of file k) phase rows)
