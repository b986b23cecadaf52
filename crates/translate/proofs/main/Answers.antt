-- `main` is safe and ends.
-- Assumes nothing.
use borrow.Author.Rules.{rules}
use Rattle.translate.proofs.Prints.{answer_within, part_of}
use Rattle.translate.proofs.main.Goals as goal

pub slice_bounds-write_all-end : goal.slice_bounds-write_all-end
slice_bounds-write_all-end c = part_of _ _ (search (rules, answer_within))
