-- `take_parts` meets its contract. The loop's invariant: some parts are fed, and no room has changed its length.
-- Assumes nothing.
use mathlib.Core.Path.{◌≡◌}
use lib.ListN.{length}
use Rattle.output.specs.Feeding.{feed_leaves}
use Rattle.model.specs.Parts.{FedSome}
use Rattle.model.proofs.take_parts.Given as goal

abbrev pub invariant-loop : goal.invariant-loop
invariant-loop l = FedSome (feed_leaves l.initial.fed l.initial.given l.initial.truth l.initial.line) (feed_leaves l.fed l.given l.truth l.line)
    × (length l.given ≡ length l.initial.given) × (length l.truth ≡ length l.initial.truth) × (length l.line ≡ length l.initial.line) × (65536 ≡ length l.part)
