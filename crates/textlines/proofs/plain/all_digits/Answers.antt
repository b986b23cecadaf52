-- `all_digits` meets its contract.
-- Assumes nothing.
use mathlib.Core.Path.{◌∙◌}
use borrow.Author.Rules.{rules}
use borrow.Author.Tests.{tests}
use Rattle.std.proofs.lemmas.Iterator.{YieldsList-from_slice}
use Rattle.std.proofs.lemmas.Iterator.Search.{all_from_yields_List}
use Rattle.rules.specs.Lines.{is_digit}
use Rattle.textlines.proofs.PlainLaws.{digits_every}
use Rattle.textlines.proofs.plain.all_digits.Goals as goal

pub returns : goal.returns
returns c = all_from_yields_List is_digit _ _ _ c.all.ensures.ran (YieldsList-from_slice c.args.word.now (cc)) (λ x b q k. search (rules, tests)) ∙ digits_every c.args.word.now
