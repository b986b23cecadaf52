-- `exclusions::put_exclusions` meets its contract. The loop's invariant: all but the last `left` lines are written, and (i, j) is the next pair; the measure is left.
-- Assumes nothing.
use Rattle.exclusions.proofs.ByPair.{PairsPut}
use Rattle.rules.specs.Counts.{number_of_pair}
use Rattle.exclusions.proofs.put_exclusions.Given as goal

abbrev pub invariant-loop-j : goal.invariant-loop-j
invariant-loop-j l = PairsPut l.initial.out l.at l.base l.count (number_of_pair l.count l.first l.second) l.lines l.out l.end l.i l.j l.left

abbrev pub decreases-loop-j : goal.decreases-loop-j
decreases-loop-j l = l.left
