-- `body_asked` meets its contract.
-- Assumes nothing.
use borrow.Author.Rules.{rules}
use Rattle.reader.proofs.ReadContents.{none_refused, none_zero, none_above, one_asked}
use Rattle.reader.proofs.contents.body_asked.Goals as goal

pub returns-in_default : goal.returns-in_default
returns-in_default c = search (rules, none_refused)

pub returns-then-number-eq0 : goal.returns-then-number-eq0
returns-then-number-eq0 c = search (rules, none_zero)

pub returns-then-number-gt-CONTENTS_ROWS : goal.returns-then-number-gt-CONTENTS_ROWS
returns-then-number-gt-CONTENTS_ROWS c = search (rules, none_above)

pub returns : goal.returns
returns c = search (rules, one_asked)
