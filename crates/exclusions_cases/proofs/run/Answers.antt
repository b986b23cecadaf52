-- `run` meets its contract.
-- Assumes nothing.
use Rattle.exclusions_cases.proofs.Given.{pairs_left}
use borrow.Author.Rules.{rules}
use Rattle.exclusions_cases.proofs.run.Goals as goal

pub show-requires : goal.show-requires
show-requires g c = search (rules, pairs_left)

pub show-requires-2 : goal.show-requires-2
show-requires-2 g c = search (rules, pairs_left)

pub show-requires-3 : goal.show-requires-3
show-requires-3 g c = search (rules, pairs_left)

pub show-requires-4 : goal.show-requires-4
show-requires-4 g c = search (rules, pairs_left)

pub show-requires-5 : goal.show-requires-5
show-requires-5 g c = search (rules, pairs_left)

pub show-requires-6 : goal.show-requires-6
show-requires-6 g c = search (rules, pairs_left)

pub show-requires-7 : goal.show-requires-7
show-requires-7 g c = search (rules, pairs_left)

pub show-requires-8 : goal.show-requires-8
show-requires-8 g c = search (rules, pairs_left)

pub show-requires-9 : goal.show-requires-9
show-requires-9 g c = search (rules, pairs_left)

pub show-requires-10 : goal.show-requires-10
show-requires-10 g c = search (rules, pairs_left)
