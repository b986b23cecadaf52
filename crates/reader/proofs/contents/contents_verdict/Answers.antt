-- Assumes nothing.
use borrow.Author.Rules.{rules}
use Rattle.rules.proofs.Loops.{none_yet, none_more}
use Rattle.reader.proofs.ReadContents.{file_short, file_long, row_refused, rows_accepted}
use Rattle.reader.proofs.contents.contents_verdict.Goals as goal

pub returns-then-file-lt-CONTENTS_BYTES : goal.returns-then-file-lt-CONTENTS_BYTES
returns-then-file-lt-CONTENTS_BYTES c = search (rules, file_short)

pub returns-then-file-gt-MAX_FILE : goal.returns-then-file-gt-MAX_FILE
returns-then-file-gt-MAX_FILE c = search (rules, file_long)

pub loop-row-init : goal.loop-row-init
loop-row-init c = search (rules, none_yet)

pub returns-then-row_at_fault : goal.returns-then-row_at_fault
returns-then-row_at_fault c = search (rules, row_refused)

pub loop-row-preserved : goal.loop-row-preserved
loop-row-preserved c = search (rules, none_more)

pub returns : goal.returns
returns c = search (rules, rows_accepted)
