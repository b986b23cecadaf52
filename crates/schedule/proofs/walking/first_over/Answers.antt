-- `first_over` meets its contract: the first entry above the highest is where the list has it.
-- Assumes nothing.
use Prim.Native.Nat.{◌≤◌, ◌<◌}
use borrow.Author.Rules.{rules}
use borrow.Author.Tests.{tests}
use lib.ListN.{take}
use Rattle.std.proofs.lemmas.Iterator.{IsFirst-from_position, YieldsList-from_slice}
use Rattle.schedule.proofs.WalkLaws.{over_found}
use Rattle.schedule.proofs.walking.first_over.Goals as goal

pub returns : goal.returns
returns c =
    over_found c.args.entries.now c.args.highest c.args.horizon c.requires c.unwrap_or.result c.position.result c.unwrap_or.ensures
    (IsFirst-from_position _ _ _ (λ e. c.args.highest < e) (λ e. e ≤ c.args.highest) c.position.ensures.ran
    (YieldsList-from_slice (take c.args.horizon c.args.entries.now) c.iter.ensures.rest)
    (λ x q k. search (rules, tests))
    (λ x q k. search (rules, tests)))
