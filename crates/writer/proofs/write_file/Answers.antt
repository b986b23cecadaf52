-- `write_file` meets its contract.
-- Assumes nothing.
use borrow.Author.Rules.{rules}
use Rattle.writer.proofs.Laying.{file_put, file_behind}
use Rattle.writer.proofs.write_file.Goals as goal

pub returns : goal.returns
returns c = search (rules, file_put, file_behind)
