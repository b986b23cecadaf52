-- A problem: a task at a horizon, under a rule that says which actions exclude each other at a step.
-- Assumes nothing.
use Rattle.std.specs.Prelude.{ℕ, Bool, true}
use Rattle.rules.specs.Task.{Task}

pub record Problem : Type 0 where
  pub task : Task
  pub horizon : ℕ
  pub excludes : ℕ → ℕ → Bool

-- every two actions exclude each other: one move or none at each step
abbrev pub rule1 : ℕ → ℕ → Bool
rule1 a b = true

abbrev pub problem : Task → ℕ → Problem
problem T k = record { task = T; horizon = k; excludes = rule1 }
