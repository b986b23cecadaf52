-- `take_parts` meets its contract. The loop's invariant: as many parts at most as were counted are taken in, and no room has changed its length.
-- Assumes nothing.
use mathlib.Core.Path.{◌≡◌}
use Prim.Native.Nat.{◌*◌}
use lib.ListN.{length}
use Rattle.translator.specs.Intake.{memory, taken}
use Rattle.translate.specs.Parts.{part_room, FedSome}
use Rattle.translate.proofs.take_parts.Given as goal

abbrev pub invariant-loop : goal.invariant-loop
invariant-loop l = FedSome (taken l.initial.fed (memory l.initial.sizes l.initial.start l.initial.goal l.initial.actions) l.initial.line) (taken l.fed (memory l.sizes l.start l.goal l.actions) l.line) (part_room * l.counter)
    × (part_room ≡ length l.part)
    × (length l.sizes ≡ length l.initial.sizes) × (length l.start ≡ length l.initial.start) × (length l.goal ≡ length l.initial.goal) × (length l.actions ≡ length l.initial.actions)
    × (length l.line ≡ length l.initial.line)
