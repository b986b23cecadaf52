-- `wawrolen_check_file` meets its contract.
-- Assumes nothing.
use borrow.Author.Rules.{rules}
use Rattle.host.proofs.Crossing.{told}
use Rattle.host.proofs.files.wawrolen_check_file.Goals as goal

pub returns : goal.returns
returns c = search (rules, told)
