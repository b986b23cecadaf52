-- `word_at` meets its contract.
-- Assumes nothing.
use borrow.Author.Rules.{rules}
use borrow.Author.Tests.{tests}
use lib.Dec.{eqb}
use Rattle.std.proofs.lemmas.Iterator.Consumers.{nth_from_yields_List}
use Rattle.std.proofs.lemmas.Iterator.Splits.{YieldsList-from_slice_split}
use Rattle.rules.specs.Text.{space}
use Rattle.textlines.proofs.WordPlaces.{word_split}
use Rattle.textlines.proofs.words.word_at.Goals as goal

pub returns : goal.returns
returns c =
    word_split c.args.line.now c.args.i _ c.unwrap_or.result c.nth.result
    (nth_from_yields_List _ _ _ c.nth.ensures.ran
    (YieldsList-from_slice_split _ (λ b. eqb b space) c.args.line.now c.split.ensures.rest c.split.ensures.done c.split.ensures.closure (λ x b q k. search (rules, tests))))
    c.unwrap_or.ensures (search rules)
