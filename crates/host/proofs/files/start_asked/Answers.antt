-- `start_asked` meets its contract.
-- Assumes nothing.
use borrow.Author.Rules.{rules}
use native.Mathlib.Omega.{arith}
use Rattle.host.proofs.FoundLaws.{start_refused, start_zero, start_above, row_there, start_there}
use Rattle.host.proofs.files.start_asked.Goals as goal

pub returns-in_default : goal.returns-in_default
returns-in_default c = search (rules, start_refused)

pub returns-then-number-eq0 : goal.returns-then-number-eq0
returns-then-number-eq0 c = search (rules, start_zero)

pub returns-then-number-gt-CONTENTS_ROWS : goal.returns-then-number-gt-CONTENTS_ROWS
returns-then-number-gt-CONTENTS_ROWS c = search (rules, start_above)

pub body_start-requires : goal.body_start-requires
body_start-requires c = (search (rules, row_there), omega arith)

pub returns : goal.returns
returns c = search (rules, start_there)
