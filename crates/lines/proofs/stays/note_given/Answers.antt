-- Assumes nothing.
use Rattle.lines.proofs.Noting.{note_start}
use borrow.Author.Rules.{rules}
use Rattle.lines.proofs.stays.note_given.Goals as goal

pub loop-a-init : goal.loop-a-init
loop-a-init c = search (rules, note_start)
