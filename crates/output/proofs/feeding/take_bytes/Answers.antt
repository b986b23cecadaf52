-- Assumes nothing.
use borrow.Author.Rules.{rules}
use Rattle.lent_bytes.proofs.WordLaws.{piece_alone}
use Rattle.output.proofs.FeedLaws.{room_line, fed_on, call_short, call_done}
use Rattle.output.proofs.feeding.take_bytes.Goals as goal

pub returns-then-not-has_room : goal.returns-then-not-has_room
returns-then-not-has_room c = search (rules, call_short)

pub loop-at-init : goal.loop-at-init
loop-at-init c = (search rules, search rules, search rules, search (rules, room_line), search rules, search rules)

pub feed_part-fed-requires : goal.feed_part-fed-requires
feed_part-fed-requires c = (search rules, search rules, search (rules, piece_alone))

pub loop-at-preserved : goal.loop-at-preserved
loop-at-preserved c = (search rules, search rules, search rules, search rules, search rules, search (rules, fed_on))

pub returns : goal.returns
returns c = search (rules, call_done)
