-- `write_schedule` meets its contract. The loop's invariant: the entries of the steps passed are written, and those behind are as found.
-- Assumes nothing.
use mathlib.Core.Path.{◌≡◌}
use mathlib.Core.List.{◌++◌}
use lib.ListN.{length, drop}
use Rattle.rules.specs.Counting.{table}
use Rattle.rules.specs.Readings.{entry_of}
use Rattle.task.specs.Numbers.{at_any_horizon}
use Rattle.rules.specs.Truth.{model_in}
use Rattle.rows.specs.Lent.{lent}
use Rattle.checker.proofs.schedule.write_schedule.Given as goal

abbrev pub invariant-loop-step : goal.invariant-loop-step
invariant-loop-step l = (length l.entry-items ≡ length l.initial.entry-items) × (l.entry-items ≡ table l.step (entry_of (at_any_horizon l.asked.task.file.now) (model_in (lent l.given l.truth))) ++ drop l.step l.initial.entry-items)
