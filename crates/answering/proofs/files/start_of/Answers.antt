-- `files::start_of` is safe and ends.
-- Assumes nothing.
use Rattle.answering.proofs.Laws.{contents_inside}
use borrow.Author.Rules.{rules}
use Rattle.answering.proofs.files.start_of.Goals as goal

pub body_start-requires : goal.body_start-requires
body_start-requires c = search (rules, contents_inside)
