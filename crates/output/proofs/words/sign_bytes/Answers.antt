-- `sign_bytes` meets its contract.
-- Assumes nothing.
use borrow.Author.Rules.{rules}
use Rattle.output.proofs.WordLaws.{sign_one, sign_there, sign_not}
use Rattle.output.proofs.words.sign_bytes.Goals as goal

pub returns-then-byte_at-eq45 : goal.returns-then-byte_at-eq45
returns-then-byte_at-eq45 c = search (rules, sign_one, sign_there)

pub returns : goal.returns
returns c = search (rules, sign_not)
