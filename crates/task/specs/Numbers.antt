-- Formula numbers: those of a step are the same at every horizon, and a number that was read is one only if it is one of 1 to N.
-- Assumes nothing.
use Rattle.std.specs.Prelude.{ℕ, cond, ◌&&◌, List, leb, Option, Some, None}
use Rattle.rules.specs.File.{task_of}
use Rattle.rules.specs.Problem.{Problem, problem}
use Rattle.task.specs.declared.numbering.FormulaNumber.{FormulaNumber}

-- the problem by which numbers are promised; the laws of Numbers carry them to any other horizon
abbrev pub at_any_horizon : List ℕ → Problem
at_any_horizon file = problem (task_of file) 0

unfoldable pub number_read : (highest number : ℕ) → Option FormulaNumber
number_read highest number = cond (leb 1 number && leb number highest) (Some (record { 0 = number })) None
