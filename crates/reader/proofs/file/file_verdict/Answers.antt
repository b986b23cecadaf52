-- `file_verdict` meets its contract.
-- Assumes nothing.
use Rattle.std.specs.Prelude.{◌≡◌, Ok}
use borrow.Author.Rules.{rules}
use Rattle.reader.proofs.ReadFile.{contents_wrong, contents_right}
use Rattle.reader.proofs.file.file_verdict.Goals as goal

pub returns-in_err-contents_verdict : goal.returns-in_err-contents_verdict
returns-in_err-contents_verdict c = search (rules, contents_wrong)

pub returns : goal.returns
returns c = let accepted : c.contents_verdict.result ≡ Ok tt = c.in_ok-contents_verdict.was in search (rules, contents_right)
