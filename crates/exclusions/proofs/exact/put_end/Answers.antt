-- `exclusions::exact::put_end` meets its contract.
-- Assumes nothing.
use Rattle.exclusions.proofs.ByBytes.{end_written}
use borrow.Author.Rules.{rules}
use Rattle.exclusions.proofs.exact.put_end.Goals as goal

pub returns : goal.returns
returns c = search (rules, end_written)
