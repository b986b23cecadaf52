-- Assumes nothing.
use mathlib.Core.Path.{◌≡◌, ap, ◌∙◌}
use borrow.Author.Rules.{rules}
use Rattle.translator.specs.Intake.{memory, taken, has_room}
use Rattle.translator.proofs.RoomLaws.{room_ready}
use Rattle.translator.proofs.ByteLaws.{further_on, call_short, call_done}
use Rattle.translator.proofs.intake.take_bytes.Goals as goal

pub returns-then-not-has_room : goal.returns-then-not-has_room
returns-then-not-has_room c = search (rules, call_short)

pub loop-at-init : goal.loop-at-init
loop-at-init c =
    let room : c.has_room.result ≡ has_room (taken c.args.state (memory c.args.sizes.now c.args.start.now c.args.goal.now c.args.actions.now) c.args.line.now) =
    c.has_room.ensures ∙ ap (λ m. has_room (taken c.args.state m c.args.line.now)) c.read.ensures in
    (search rules, room_ready _ _ _ _ room (search rules), search rules, search rules)

pub loop-at-preserved : goal.loop-at-preserved
loop-at-preserved c = (search rules, search rules, search rules, search (rules, further_on))

pub returns : goal.returns
returns c = search (rules, call_done)
