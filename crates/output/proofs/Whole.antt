-- An output that is fed in pieces, cut anywhere, comes to the rules' reading of the whole.
-- Assumes nothing.
use Rattle.std.specs.Prelude.{Ok, Err}
use mathlib.Core.Path.{◌≡◌, refl, sym, ap, ◌∙◌}
use mathlib.Core.Logic.{⊎_elim}
use mathlib.Core.Bool.{Bool, true, cond}
use mathlib.Core.List.{List, [], ◌∷◌, ◌++◌, foldl}
use Prim.Native.Nat.{ℕ, ◌+◌, ◌≤◌, ◌<◌, min}
use native.Mathlib.Omega.{arith}
use borrow.Author.Tests.{eq-eqb, ne_eqb, eqb-true, eqb-false, le-leb, lt-leb, lt-ltb, le-ltb}
use lib.Dec.{eqb, leb}
use lib.ListN.{length, take, set, length-take, length-set}
use lib.Seq.{take_all}
use Rattle.rules.specs.Counting.{joined}
use Rattle.rules.specs.Limits.{max_line}
use Rattle.rules.specs.Answers.{demand, judge, in_turn, Verdict, LineAnswer}
use Rattle.rules.specs.Text.{lf}
use Rattle.rules.specs.Families.{Literal}
use Rattle.rules.specs.Rows.{Rows}
use Rattle.rules.specs.Lines.{kind_of, line_verdict, phase_after, named, rows_fit, Progress, progress, read_line}
use Rattle.rules.specs.Output.{lines_of, read_on, read_lines, read_output}
use Rattle.rules.specs.declared.Refusal.{Refusal}
use Rattle.rules.specs.declared.Refusal.TheVariants.{Room, Grammar}
use Rattle.rules.specs.declared.Reading.{Reading}
use Rattle.rules.proofs.Bools.{either, below_or, and_left}
use Rattle.rules.proofs.Cut.{lines_ahead, ahead_first, ahead_none, ahead_last, ahead_lf, ahead_byte, Holds, holds_none, holds_more, holds_full}
use Rattle.output.specs.Line.{both_fit}
use Rattle.output.specs.Feeding.{line_room, Fed, fed_byte, feed_byte, feed_all, room_for, has_room, feed_call, finished, finish, finish_call}
use Rattle.output.proofs.FeedLaws.{fed_stays, fed_in_pieces}
use Rattle.output.proofs.Kept.{all_keep}

-- ---- pieces do not matter

fed_nothing : (fed : Fed) → fed ≡ feed_all fed []
unfolding feed_all
fed_nothing fed = refl

-- ---- a line that is too long is told by its first bytes

overlong : (reading : Reading) (rows : Rows) (line : List ℕ) → max_line < length line
    → ◌≡◌ {A = Progress} (read_line reading rows line) (record { answer = Err (cond (rows_fit reading.highest rows) (Grammar max_line) Room); rows = rows })
unfolding read_line line_verdict judge
overlong reading rows line h =
    ⊎_elim (λ t. rw (lt-leb (length line) max_line h) (rw t refl)) (λ t. rw t refl) (either (rows_fit reading.highest rows))

clipped : (reading : Reading) (rows : Rows) (line : List ℕ) → read_line reading rows (take line_room line) ≡ read_line reading rows line
clipped reading rows line =
    ⊎_elim
    (λ h. overlong reading rows (take line_room line) (omega (arith, length-take line_room line)) ∙ sym (overlong reading rows line (omega arith)))
    (λ h. ap (read_line reading rows) (take_all line_room line h))
    (below_or line_room (length line))

-- ---- a refused line ends the reading

abbrev step : Progress → List ℕ → Progress
step p line = read_on p.answer p.rows line

on_stays : (answer : LineAnswer) (why : Refusal) (rows : Rows) (line : List ℕ) → answer ≡ Err why
    → ◌≡◌ {A = Progress} (read_on answer rows line) (record { answer = answer; rows = rows })
on_stays answer why rows line e = rw e

lines_stay : (p : Progress) (why : Refusal) (ls : List (List ℕ)) → p.answer ≡ Err why → foldl step p ls ≡ p
lines_stay p why [] e = refl
lines_stay p why (l ∷ ls) e = ap (λ q. foldl step q ls) (on_stays p.answer why p.rows l e) ∙ lines_stay p why ls e

end_stays : (answer : LineAnswer) (why : Refusal) (rows : Rows) (held : ℕ) (line : List ℕ) → answer ≡ Err why
    → ◌≡◌ {A = Progress} (finished answer rows held line) (record { answer = answer; rows = rows })
end_stays answer why rows held line e = rw e

-- ---- the whole

-- the line that is held, read, is the line that was begun
held_read : (reading : Reading) (rows : Rows) (held : ℕ) (line begun : List ℕ) → Holds line_room held line begun
    → read_line reading rows (take held line) ≡ read_line reading rows begun
held_read reading rows held line begun h = ap (read_line reading rows) h.same ∙ clipped reading rows begun

abbrev Read : List ℕ → LineAnswer → Rows → ℕ → List ℕ → List ℕ → Type 0
Read bytes answer rows held line begun =
    finish (feed_all (record { progress = record { answer = answer; rows = rows }; held = held; line = line }) bytes)
    ≡ foldl step (record { answer = answer; rows = rows }) (lines_ahead begun bytes)

read_refused : (bytes : List ℕ) (why : Refusal) (rows : Rows) (held : ℕ) (line begun : List ℕ) → Read bytes (Err why) rows held line begun
unfolding finish
read_refused bytes why rows held line begun =
    ap finish (fed_stays (record { progress = record { answer = Err why; rows = rows }; held = held; line = line }) why bytes refl)
    ∙ sym (lines_stay (record { answer = Err why; rows = rows }) why (lines_ahead begun bytes) refl)

read_end : (reading : Reading) (rows : Rows) (held : ℕ) (line begun : List ℕ) → Holds line_room held line begun → Read [] (Ok reading) rows held line begun
unfolding feed_all finish
read_end reading rows held line [] h =
    rw (eq-eqb held 0 h.much) (ap (foldl step (record { answer = Ok reading; rows = rows })) (sym ahead_none))
read_end reading rows held line (b ∷ begun) h =
    rw (ne_eqb held 0 (λ e. omega (arith, h.much)))
    (held_read reading rows held line (b ∷ begun) h
    ∙ ap (foldl step (record { answer = Ok reading; rows = rows })) (sym (ahead_last b begun)))

read_lf : (bytes : List ℕ) (reading : Reading) (rows : Rows) (held : ℕ) (line begun : List ℕ) (b : ℕ) → b ≡ lf → Holds line_room held line begun
    → Read bytes (read_line reading rows begun).answer (read_line reading rows begun).rows 0 line []
    → Read (b ∷ bytes) (Ok reading) rows held line begun
unfolding feed_all feed_byte
read_lf bytes reading rows held line begun b e h rest =
    rw (eq-eqb b lf e)
    (ap (λ p. finish (feed_all (record { progress = p; held = 0; line = line }) bytes)) (held_read reading rows held line begun h)
    ∙ rest
    ∙ ap (foldl step (record { answer = Ok reading; rows = rows })) (sym (ahead_lf begun bytes b e)))

read_byte : (bytes : List ℕ) (reading : Reading) (rows : Rows) (held : ℕ) (line begun : List ℕ) (b : ℕ) → (b ≡ lf → ⊥) → Holds line_room held line begun
    → ((held : ℕ) (line begun : List ℕ) → Holds line_room held line begun → Read bytes (Ok reading) rows held line begun)
    → Read (b ∷ bytes) (Ok reading) rows held line begun
unfolding feed_all feed_byte
read_byte bytes reading rows held line begun b e h rest =
    let longer = ap (foldl step (record { answer = Ok reading; rows = rows })) (sym (ahead_byte begun bytes b e)) in
    rw (ne_eqb b lf e)
    (⊎_elim
    (λ l. rw (lt-ltb held line_room l) (rest (held + 1) (set line held b) (begun ++ (b ∷ [])) (holds_more line_room held line begun b h l) ∙ longer))
    (λ l. rw (le-ltb held line_room l) (rest held line (begun ++ (b ∷ [])) (holds_full line_room held line begun b h l) ∙ longer))
    (below_or held line_room))

read_all : (bytes : List ℕ) (answer : LineAnswer) (rows : Rows) (held : ℕ) (line begun : List ℕ) → Holds line_room held line begun → Read bytes answer rows held line begun
read_all [] (Err why) rows held line begun h = read_refused [] why rows held line begun
read_all [] (Ok reading) rows held line begun h = read_end reading rows held line begun h
read_all (b ∷ bytes) (Err why) rows held line begun h = read_refused (b ∷ bytes) why rows held line begun
read_all (b ∷ bytes) (Ok reading) rows held line begun h =
    ⊎_elim
    (λ t.
    read_lf bytes reading rows held line begun b (eqb-true b lf t) h
    (read_all bytes (read_line reading rows begun).answer (read_line reading rows begun).rows 0 line [] (holds_none line_room line h.fits)))
    (λ t. read_byte bytes reading rows held line begun b (eqb-false b lf t) h (λ held line begun h. read_all bytes (Ok reading) rows held line begun h))
    (either (eqb b lf))

-- any bytes, fed from the start with room for a line, end in the rules' reading of them
pub whole : (reading : Reading) (rows : Rows) (line bytes : List ℕ) → line_room ≤ length line
    → finish (feed_all (record { progress = record { answer = Ok reading; rows = rows }; held = 0; line = line }) bytes) ≡ read_output reading rows bytes
unfolding read_output read_lines lines_of
whole reading rows line bytes h =
    read_all bytes (Ok reading) rows 0 line [] (holds_none line_room line h)
    ∙ ap (foldl step (record { answer = Ok reading; rows = rows })) (ahead_first bytes)

-- ---- the calls: fed from the start in any pieces, with room for a line and for the rows

abbrev room_after : Progress → (line : ℕ) → Bool
room_after p line = room_for p.answer (length p.rows.given) (length p.rows.is_true) line

-- room for a reading is room for what a line leaves of it
room_kept : (v : Verdict) (reading next : Reading) (ls : List Literal) (rows : Rows) (line : ℕ) → next.highest ≡ reading.highest
    → room_after (record { answer = Ok reading; rows = rows }) line ≡ true → room_after (progress v next ls rows) line ≡ true
unfolding room_for
room_kept (Ok _) reading next ls rows line e h = rw (e, (all_keep rows ls).given, (all_keep rows ls).is_true) h
room_kept (Err why) reading next ls rows line e h = and_left (leb line_room line) (both_fit reading.highest (length rows.given) (length rows.is_true)) h

room_read : (reading : Reading) (rows : Rows) (bytes : List ℕ) (line : ℕ) → room_after (record { answer = Ok reading; rows = rows }) line ≡ true
    → room_after (read_line reading rows bytes) line ≡ true
unfolding read_line
room_read reading rows bytes line h =
    room_kept (in_turn (judge (demand (rows_fit reading.highest rows) Room ∷ [])) (line_verdict reading rows.given bytes)) reading
    (record { highest = reading.highest; phase = phase_after (kind_of bytes) reading rows.given bytes })
    (named (kind_of bytes) reading rows.given bytes) rows line refl h

record Sound (fed : Fed) : Type 0 where
  room : has_room fed ≡ true
  within : fed.held ≤ line_room

sound_byte : (answer : LineAnswer) (rows : Rows) (held : ℕ) (line : List ℕ) (b : ℕ) → room_after (record { answer = answer; rows = rows }) (length line) ≡ true → held ≤ line_room
    → Sound (fed_byte answer rows held line b)
unfolding has_room
sound_byte (Err why) rows held line b h k = record { room = h; within = k }
sound_byte (Ok reading) rows held line b h k =
    ⊎_elim (λ t. rw t (record { room = room_read reading rows (take held line) (length line) h; within = omega arith }))
    (λ t.
    rw t
    (⊎_elim (λ l. rw (lt-ltb held line_room l) (record { room = rw (length-set line held b) h; within = omega arith }))
    (λ l. rw (le-ltb held line_room l) (record { room = h; within = k }))
    (below_or held line_room)))
    (either (eqb b lf))

sound_all : (fed : Fed) (bytes : List ℕ) → Sound fed → Sound (feed_all fed bytes)
unfolding feed_all feed_byte has_room
sound_all fed [] s = s
sound_all fed (b ∷ bytes) s =
    sound_all (feed_byte fed b) bytes (sound_byte fed.progress.answer fed.progress.rows fed.held fed.line b s.room s.within)

no_more-held : (fed : Fed) → Sound fed → ◌≡◌ {A = Fed} (record { progress = fed.progress; held = min fed.held line_room; line = fed.line }) fed
no_more-held fed s =
    let least : min fed.held line_room ≡ fed.held = omega (arith, s.within) in
    ap (λ k. record { progress = fed.progress; held = k; line = fed.line }) least

call_feeds : (fed : Fed) (bytes : List ℕ) → Sound fed → feed_call fed bytes ≡ feed_all fed bytes
unfolding feed_call
call_feeds fed bytes s = rw s.room (ap (λ f. feed_all f bytes) (no_more-held fed s))

call_finishes : (fed : Fed) → Sound fed → finish_call fed ≡ finish fed
unfolding finish_call
call_finishes fed s = rw s.room (ap finish (no_more-held fed s))

calls_feed : (fed : Fed) (parts : List (List ℕ)) → Sound fed → foldl feed_call fed parts ≡ feed_all fed (joined parts)
unfolding joined
calls_feed fed [] s = fed_nothing fed
calls_feed fed (p ∷ parts) s =
    ap (λ f. foldl feed_call f parts) (call_feeds fed p s)
    ∙ calls_feed (feed_all fed p) parts (sound_all fed p s)
    ∙ fed_in_pieces fed p (joined parts)

room_begun : (reading : Reading) (rows : Rows) (line : ℕ) → line_room ≤ line → rows_fit reading.highest rows ≡ true
    → room_after (record { answer = Ok reading; rows = rows }) line ≡ true
unfolding room_for rows_fit both_fit
room_begun reading rows line h f = rw (le-leb line_room line h) f

pub read_in_parts : (reading : Reading) (rows : Rows) (line : List ℕ) (parts : List (List ℕ)) → line_room ≤ length line → rows_fit reading.highest rows ≡ true
    → finish_call (foldl feed_call (record { progress = record { answer = Ok reading; rows = rows }; held = 0; line = line }) parts)
    ≡ read_output reading rows (joined parts)
unfolding has_room
read_in_parts reading rows line parts h f =
    let begun : Fed = record { progress = record { answer = Ok reading; rows = rows }; held = 0; line = line } in
    let s : Sound begun = record { room = room_begun reading rows (length line) h f; within = omega arith } in
    ap finish_call (calls_feed begun parts s)
    ∙ call_finishes (feed_all begun (joined parts)) (sound_all begun (joined parts) s)
    ∙ whole reading rows line (joined parts) h
