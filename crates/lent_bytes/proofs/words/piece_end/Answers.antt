-- `piece_end` meets its contract: the first separator from there on is where the piece ends.
-- Assumes nothing.
use mathlib.Core.Logic.{◌≢◌}
use mathlib.Core.Path.{◌≡◌, ap, ◌∙◌}
use borrow.Author.Rules.{rules}
use borrow.Author.Tests.{tests}
use lib.ListN.{length, drop, length-drop}
use Rattle.std.specs.Option.{unwrap_or}
use Rattle.std.proofs.lemmas.Iterator.{IsFirst-from_position, YieldsList-from_slice}
use Rattle.lent_bytes.proofs.WordLaws.{from, ends_at_first}
use Rattle.lent_bytes.proofs.words.piece_end.Goals as goal

pub returns : goal.returns
returns c =
    ends_at_first c.args.separator c.args.bytes.now c.args.at c.unwrap_or.result c.position.result c.requires
    (c.unwrap_or.ensures ∙ ap (unwrap_or c.position.result) (ap length (from c.args.bytes.now c.args.at) ∙ length-drop c.args.at c.args.bytes.now))
    (IsFirst-from_position _ _ _ (λ b. b ≡ c.args.separator) (λ b. b ≢ c.args.separator) c.position.ensures.ran
    (YieldsList-from_slice (drop c.args.at c.args.bytes.now) (c.iter.ensures.rest ∙ from c.args.bytes.now c.args.at))
    (λ x q k. search (rules, tests))
    (λ x q k. search (rules, tests)))
