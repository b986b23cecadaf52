-- Assumes nothing.
use Rattle.text.proofs.Running.{run_start, run_more, stopped_out, stopped_lines, stopped_bytes, end_out, end_lines, end_bytes}
use borrow.Author.Rules.{rules}
use Rattle.text.proofs.runs.put_run.Goals as goal

pub loop-lines-init : goal.loop-lines-init
loop-lines-init c = search (rules, run_start)

pub returns-then-part-eq0-clause-written : goal.returns-then-part-eq0-clause-written
returns-then-part-eq0-clause-written c = search (rules, stopped_out)

pub returns-then-part-eq0-clause-lines : goal.returns-then-part-eq0-clause-lines
returns-then-part-eq0-clause-lines c = stopped_lines _ _ _ _ _ _ _ _ c.loop-lines.invariant _ _ _ c.put_some-part.ensures c.if-part-eq0.true

pub returns-then-part-eq0-clause-bytes : goal.returns-then-part-eq0-clause-bytes
returns-then-part-eq0-clause-bytes c = stopped_bytes _ _ _ _ _ _ _ _ c.loop-lines.invariant _ _ _ c.put_some-part.ensures c.if-part-eq0.true

pub loop-lines-preserved : goal.loop-lines-preserved
loop-lines-preserved c = search (rules, run_more)

pub returns-clause-written : goal.returns-clause-written
returns-clause-written c = search (rules, end_out)

pub returns-clause-lines : goal.returns-clause-lines
returns-clause-lines c = search (rules, end_lines)

pub returns-clause-bytes : goal.returns-clause-bytes
returns-clause-bytes c = search (rules, end_bytes)
