-- `status_line` meets its contract: each answer by the text that the line is.
-- Assumes nothing.
use borrow.Author.Rules.{rules}
use Rattle.rules.specs.Text.{ascii}
use Rattle.rules.specs.Lines.{says_satisfiable, says_unsatisfiable, says_unknown}
use Rattle.output.proofs.StatusLaws.{status_out, status_satisfiable, status_unsatisfiable, status_unknown, status_broken}
use Rattle.output.proofs.status.status_line.Goals as goal

pub returns-then-not-awaits_status : goal.returns-then-not-awaits_status
unfolding says_satisfiable says_unsatisfiable says_unknown ascii
returns-then-not-awaits_status c = search (rules, status_out)

pub returns-then-is_same : goal.returns-then-is_same
unfolding says_satisfiable says_unsatisfiable says_unknown ascii
returns-then-is_same c = search (rules, status_satisfiable)

pub returns-then-is_same-2 : goal.returns-then-is_same-2
unfolding says_satisfiable says_unsatisfiable says_unknown ascii
returns-then-is_same-2 c = search (rules, status_unsatisfiable)

pub returns-then-is_same-3 : goal.returns-then-is_same-3
unfolding says_satisfiable says_unsatisfiable says_unknown ascii
returns-then-is_same-3 c = search (rules, status_unknown)

pub returns : goal.returns
unfolding says_satisfiable says_unsatisfiable says_unknown ascii
returns c = search (rules, status_broken)
