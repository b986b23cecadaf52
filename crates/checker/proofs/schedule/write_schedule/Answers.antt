-- Assumes nothing.
use borrow.Author.Rules.{rules}
use Rattle.checker.proofs.ScheduleLaws.{entries_none, entries_more, entries_all}
use Rattle.checker.proofs.schedule.write_schedule.Goals as goal

pub loop-step-init : goal.loop-step-init
loop-step-init c = search (rules, entries_none)

pub loop-step-preserved : goal.loop-step-preserved
loop-step-preserved c = (search rules, entries_more _ _ _ c.loop-step.entry-items c.loop-step.step _ c.loop-step-test.true c.loop-step.invariant.1 c.entry_at.ensures)

pub returns : goal.returns
returns c = search (rules, entries_all)
