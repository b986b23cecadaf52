-- What is asked of: the file, its task, and the problem at the horizon.
-- Assumes nothing.
use Rattle.std.specs.Prelude.{ℕ, List}
use Rattle.rules.specs.Task.{Task}
use Rattle.rules.specs.Problem.{Problem}
use Rattle.rules.specs.File.{task_of}
use Rattle.rules.specs.Calls.{problem_of}
use Rattle.task.specs.declared.indexed.IndexedFile.{IndexedFile}
use Rattle.task.specs.declared.indexed.Asked.{Asked}

abbrev pub file_in : IndexedFile → List ℕ
file_in task = task.file.now

abbrev pub task_in : IndexedFile → Task
task_in task = task_of (file_in task)

abbrev pub file_asked : Asked → List ℕ
file_asked asked = file_in asked.task

abbrev pub problem_asked : Asked → Problem
problem_asked asked = problem_of (file_asked asked) asked.horizon
