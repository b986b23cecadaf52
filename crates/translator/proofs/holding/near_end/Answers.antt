-- `near_end` meets its contract: the first LF from there on is where the line ends.
-- Assumes nothing.
use mathlib.Core.Logic.{◌≢◌}
use mathlib.Core.Path.{◌≡◌, ap, ◌∙◌}
use borrow.Author.Rules.{rules}
use borrow.Author.Tests.{tests}
use lib.ListN.{length, drop, length-drop}
use Rattle.std.specs.Option.{unwrap_or}
use Rattle.std.proofs.lemmas.Iterator.{IsFirst-from_position, YieldsList-from_slice}
use Rattle.rules.specs.Text.{lf}
use Rattle.translator.proofs.ByteLaws.{left_from, passed_first}
use Rattle.translator.proofs.holding.near_end.Goals as goal

pub returns : goal.returns
returns c =
    passed_first c.args.bytes.now c.args.at c.unwrap_or.result c.position.result c.requires
    (c.unwrap_or.ensures ∙ ap (unwrap_or c.position.result) (ap length (left_from c.args.bytes.now c.args.at) ∙ length-drop c.args.at c.args.bytes.now))
    (IsFirst-from_position _ _ _ (λ b. b ≡ lf) (λ b. b ≢ lf) c.position.ensures.ran
    (YieldsList-from_slice (drop c.args.at c.args.bytes.now) (c.iter.ensures.rest ∙ left_from c.args.bytes.now c.args.at))
    (λ x q k. search (rules, tests))
    (λ x q k. search (rules, tests)))
