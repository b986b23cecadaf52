-- `exclusions::words::put_run` meets its contract. The loop's invariant: i lines of the run are written, and the tail of the next is at hand.
-- Assumes nothing.
use Rattle.exclusions.proofs.ByWords.{Running}
use Rattle.exclusions.proofs.words.put_run.Given as goal

abbrev pub invariant-loop : goal.invariant-loop
invariant-loop l = Running l.initial.out l.at l.head l.line l.first l.n l.out l.end l.tail l.counter
