-- `row_body` meets its contract. The contents are accepted, so the body lies within the file.
-- Assumes nothing.
use borrow.Author.Rules.{rules}
use native.Mathlib.Omega.{arith}
use Rattle.reader.proofs.ReadContents.{contents_there, body_there, body_is}
use Rattle.reader.proofs.contents.row_body.Goals as goal

pub body_start-start-requires : goal.body_start-start-requires
body_start-start-requires c = omega (arith, contents_there)

pub body_length-requires : goal.body_length-requires
body_length-requires c = omega (arith, contents_there)

pub slice_bounds-result-end : goal.slice_bounds-result-end
slice_bounds-result-end c = search (rules, body_there)

pub returns : goal.returns
returns c = search (rules, body_is)
