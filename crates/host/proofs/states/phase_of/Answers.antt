-- `phase_of` meets its contract.
-- Assumes nothing.
use borrow.Author.Rules.{rules}
use Rattle.host.proofs.Crossing.{is_open, is_closed, is_unsatisfiable, is_unknown, is_no_status}
use Rattle.host.proofs.states.phase_of.Goals as goal

pub returns-then-number-eq-MODEL_OPEN : goal.returns-then-number-eq-MODEL_OPEN
returns-then-number-eq-MODEL_OPEN c = search (rules, is_open)

pub returns-then-number-eq-MODEL_CLOSED : goal.returns-then-number-eq-MODEL_CLOSED
returns-then-number-eq-MODEL_CLOSED c = search (rules, is_closed)

pub returns-then-number-eq-SAID_UNSATISFIABLE : goal.returns-then-number-eq-SAID_UNSATISFIABLE
returns-then-number-eq-SAID_UNSATISFIABLE c = search (rules, is_unsatisfiable)

pub returns-then-number-eq-SAID_UNKNOWN : goal.returns-then-number-eq-SAID_UNKNOWN
returns-then-number-eq-SAID_UNKNOWN c = search (rules, is_unknown)

pub returns : goal.returns
returns c = search (rules, is_no_status)
