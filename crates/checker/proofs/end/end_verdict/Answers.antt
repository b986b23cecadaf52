-- `end_verdict` meets its contract.
-- Assumes nothing.
use Rattle.checker.proofs.EndLaws.{no_room, status_right, status_wrong}
use borrow.Author.Rules.{rules}
use Rattle.checker.proofs.end.end_verdict.Goals as goal

pub returns-then-not-room_fits : goal.returns-then-not-room_fits
returns-then-not-room_fits c = search (rules, no_room)

pub returns-in_err-status_verdict : goal.returns-in_err-status_verdict
returns-in_err-status_verdict c = search (rules, status_wrong)

pub returns : goal.returns
returns c = search (rules, status_right)
