-- `has_words` meets its contract.
-- Assumes nothing.
use borrow.Author.Rules.{rules}
use borrow.Author.Tests.{tests}
use lib.Dec.{eqb}
use Rattle.std.proofs.lemmas.Iterator.{YieldsList-from_slice, YieldsList-from_take}
use Rattle.std.proofs.lemmas.Iterator.Consumers.{YieldsList-from_filter, count_from_yields_List}
use Rattle.rules.specs.Text.{space}
use Rattle.textlines.proofs.WordPlaces.{count_spaces}
use Rattle.textlines.proofs.words.has_words.Goals as goal

pub returns : goal.returns
returns c =
    count_spaces c.args.line.now c.count.result c.args.count
    (count_from_yields_List _ _ c.count.ensures.ran
    (YieldsList-from_take {s = c.take.result} c.args.count
    (YieldsList-from_filter _ (λ b. eqb b space)
    (YieldsList-from_slice c.args.line.now (cc))
    (cc) (λ x b q k. search (rules, tests)))
    c.take.ensures.count))
