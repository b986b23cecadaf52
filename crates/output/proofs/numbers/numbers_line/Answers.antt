-- `numbers_line` meets its contract: a trial that goes through stores what the line names, and one that stops is taken back.
-- Assumes nothing.
use borrow.Author.Rules.{rules}
use Rattle.output.proofs.LineLaws.{numbers_out, numbers_apart, stop_within, numbers_stopped, numbers_through}
use Rattle.output.proofs.numbers.numbers_line.Goals as goal

pub returns-then-not-awaits_numbers : goal.returns-then-not-awaits_numbers
returns-then-not-awaits_numbers c = search (rules, numbers_out)

pub returns-then-not-stands_alone : goal.returns-then-not-stands_alone
returns-then-not-stands_alone c = search (rules, numbers_apart)

pub write_numbers-requires : goal.write_numbers-requires
write_numbers-requires c = search (rules, stop_within)

pub returns-in-Err : goal.returns-in-Err
returns-in-Err c = search (rules, numbers_stopped)

pub returns-in-Ok : goal.returns-in-Ok
returns-in-Ok c = search (rules, numbers_through)
