-- Laws of feeding: line by line, pieces do not matter, and the end comes to the rules' reading of the whole output.
-- Assumes nothing.
use Rattle.std.specs.Prelude.{Ok, Err}
use mathlib.Core.Path.{◌≡◌, refl, sym, ap, ap₂, ◌∙◌}
use mathlib.Core.Logic.{⊎_elim}
use mathlib.Core.Bool.{Bool, true, false, cond, not}
use mathlib.Core.List.{List, [], ◌∷◌, ◌++◌, append-nil, append_assoc, foldl-append}
use Prim.Native.Nat.{ℕ, suc, ◌+◌, ◌-◌, ◌≤◌, ◌<◌, min}
use native.Mathlib.Omega.{arith}
use native.Mathlib.Numerals.{add-one}
use borrow.Author.Tests.{eq-eqb, ne_eqb, leb-true, lt-ltb, le-ltb}
use lib.Dec.{eqb, leb, ltb}
use lib.ListN.{length, take, drop, set, take-append-drop, drop_of_length-le, length-take, length-set}
use lib.Seq.{drop-cons, drop-drop, take-nil, take_all, length-take-le}
use Rattle.rules.specs.Text.{lf}
use Rattle.rules.specs.Rows.{Rows}
use Rattle.rules.specs.Lines.{read_line}
use Rattle.rules.specs.declared.Refusal.{Refusal}
use Rattle.rules.specs.declared.Refusal.TheVariants.{Room}
use Rattle.rules.specs.declared.Reading.{Reading}
use Rattle.rules.specs.Answers.{LineAnswer}
use Rattle.rules.proofs.Bools.{either, below_or, and_left, not_true, not_false}
use Rattle.lent_bytes.specs.Words.{length_until, PieceEnds}
use Rattle.lent_bytes.proofs.WordLaws.{piece_stops}
use Rattle.digits.specs.Over.{over}
use Rattle.digits.proofs.Overs.{over_none, over_over, length_over, set_over}
use Rattle.output.specs.Line.{lent, leaves, both_fit}
use Rattle.output.specs.Feeding.{line_room, Fed, feed_leaves, fed_byte, feed_byte, feed_all, held_then, line_then, WithoutLF, feed_part, room_for, has_room, feed_call, finish, finish_call}
use Rattle.output.specs.declared.feeding.Feed.{Feed}

-- ---- room

pub room_line : (answer : LineAnswer) (g t line : ℕ) (r : Bool) → r ≡ room_for answer g t line → not r ≡ false → line_room ≤ line
unfolding room_for
room_line (Ok reading) g t line r e k = leb-true line_room line (and_left (leb line_room line) (both_fit reading.highest g t) (sym e ∙ not_false r k))
room_line (Err why) g t line r e k = leb-true line_room line (sym e ∙ not_false r k)

-- ---- bytes of one line

pub least_length : (line : List ℕ) (held least room : ℕ) → room ≤ length line → least ≡ min held room → least ≡ length (take least line)
least_length line held least room h e = sym (length-take-le least line (omega arith))

-- of some bytes so many are taken as there are, or as there is room for
module _ (part : List ℕ) (most room : ℕ) (e : most ≡ min (length part) room) where
  pub most_length : most ≡ length (take most part)
  most_length = sym (length-take-le most part (omega arith))

  most_same : take most part ≡ take room part
  most_same =
      ⊎_elim (λ h. let all : most ≡ room = omega arith in ap (λ k. take k part) all)
      (λ h. take_all most part (omega arith) ∙ sym (take_all room part h))
      (below_or room (length part))

module _ (line part : List ℕ) (held most : ℕ) (e : most ≡ min (length part) (line_room - held)) where
  pub hold_fits : held ≤ line_room → line_room ≤ length line → held + length (take most part) ≤ length line
  hold_fits h f = omega (arith, most_length part most (line_room - held) e)

  pub hold_line : (l : List ℕ) → l ≡ over line held (take most part) → l ≡ line_then line held part
  hold_line l k = k ∙ ap (over line held) (most_same part most (line_room - held) e)

  pub hold_held : (r : ℕ) → held ≤ line_room → r ≡ held + length (take most part) → r ≡ held_then held (length part)
  hold_held r h k = omega (arith, most_length part most (line_room - held) e)

pub then_length : (line part l : List ℕ) (held r : ℕ) → held ≤ line_room → line_room ≤ length line → l ≡ line_then line held part
    → r ≡ held_then held (length part) → r ≡ length (take r l)
then_length line part l held r h f m i =
    let fits : held + length (take (line_room - held) part) ≤ length line = omega (arith, length-take (line_room - held) part) in
    sym (length-take-le r l (omega (arith, ap length m ∙ length_over line held (take (line_room - held) part) fits)))

abbrev holding : Reading → Rows → (held : ℕ) (line : List ℕ) → Fed
holding reading rows held line = record { progress = record { answer = Ok reading; rows = rows }; held = held; line = line }

-- a byte that is held is the first of those that go there
held_first : (line : List ℕ) (held : ℕ) (b : ℕ) (part : List ℕ) → held < line_room → line_room ≤ length line
    → line_then (set line held b) (held + 1) part ≡ line_then line held (b ∷ part)
held_first line held b part h f =
    let one : line_room - held ≡ suc (line_room - (held + 1)) = omega arith in
    ap (λ l. over l (held + 1) (take (line_room - (held + 1)) part)) (set_over line held b (omega arith))
    ∙ over_over line held (b ∷ []) (take (line_room - (held + 1)) part)
    ∙ ap (λ k. over line held (take k (b ∷ part))) (sym one)

held_none : (line : List ℕ) (held : ℕ) (part : List ℕ) → line_room ≤ held → line_then line held part ≡ line
held_none line held part h = let none : line_room - held ≡ 0 = omega arith in ap (λ k. over line held (take k part)) none ∙ over_none line held

-- bytes without an LF are held
part_held : (reading : Reading) (rows : Rows) (held : ℕ) (line part : List ℕ) → WithoutLF part → held ≤ line_room → line_room ≤ length line
    → feed_all (holding reading rows held line) part ≡ holding reading rows (held_then held (length part)) (line_then line held part)
unfolding feed_all feed_byte length_until
part_held reading rows held line [] a h f =
    ap₂ (holding reading rows) (omega arith) (sym (ap (over line held) (take-nil (line_room - held)) ∙ over_none line held))
part_held reading rows held line (b ∷ part) a h f =
    ⊎_elim (λ t. absurd (omega (arith, rw t at a)))
    (λ t.
    let rest : WithoutLF part = omega (arith, rw t at a) in
    rw t
    (⊎_elim
    (λ l.
    rw (lt-ltb held line_room l)
    (part_held reading rows (held + 1) (set line held b) part rest (omega arith) (omega (arith, length-set line held b))
    ∙ ap₂ (holding reading rows) (omega arith) (held_first line held b part l f)))
    (λ l.
    rw (le-ltb held line_room l)
    (part_held reading rows held line part rest h f
    ∙ ap₂ (holding reading rows) (omega arith) (held_none line held part l ∙ sym (held_none line held (b ∷ part) l))))
    (below_or held line_room)))
    (either (eqb b lf))

-- a refused line ends the reading
byte_stays : (answer : LineAnswer) (why : Refusal) (rows : Rows) (held : ℕ) (line : List ℕ) (b : ℕ) → answer ≡ Err why
    → ◌≡◌ {A = Fed} (fed_byte answer rows held line b) (record { progress = record { answer = answer; rows = rows }; held = held; line = line })
byte_stays answer why rows held line b e = rw e

pub fed_stays : (fed : Fed) (why : Refusal) (bytes : List ℕ) → fed.progress.answer ≡ Err why → feed_all fed bytes ≡ fed
unfolding feed_all feed_byte
fed_stays fed why [] e = refl
fed_stays fed why (b ∷ bytes) e =
    ap (λ f. feed_all f bytes) (byte_stays fed.progress.answer why fed.progress.rows fed.held fed.line b e) ∙ fed_stays fed why bytes e

-- pieces do not matter
pub fed_in_pieces : (fed : Fed) (s t : List ℕ) → feed_all (feed_all fed s) t ≡ feed_all fed (s ++ t)
unfolding feed_all
fed_in_pieces fed s t = sym (foldl-append feed_byte fed s t)

-- the LF of a line that ends
abbrev closing : Bool → List ℕ
closing ends = cond ends (lf ∷ []) []

part_all : (fed : Fed) (part : List ℕ) (ends : Bool) → feed_part fed part ends ≡ feed_all fed (part ++ closing ends)
unfolding feed_part feed_all
part_all fed part true = sym (foldl-append feed_byte fed part (lf ∷ []))
part_all fed part false = ap (feed_all fed) (sym (append-nil part))

module _ (state : Feed) (g t line part : List ℕ) (ends : Bool) where
  pub part_refused : (why : Refusal) → state.answer ≡ Err why → feed_leaves state g t line ≡ feed_part (feed_leaves state g t line) part ends
  part_refused why e = sym (part_all (feed_leaves state g t line) part ends ∙ fed_stays (feed_leaves state g t line) why (part ++ closing ends) e)

  module _ (reading : Reading) (e : state.answer ≡ Ok reading) (r : ℕ) (l : List ℕ) (i : r ≡ held_then state.held (length part))
      (m : l ≡ line_then line state.held part) (a : WithoutLF part) (h : state.held ≤ line_room) (f : line_room ≤ length line) where
    held_so : feed_all (feed_leaves state g t line) part ≡ holding reading (lent g t) r l
    held_so =
        ap (λ answer. feed_all (record { progress = leaves answer g t; held = state.held; line = line }) part) e
        ∙ part_held reading (lent g t) state.held line part a h f
        ∙ ap₂ (holding reading (lent g t)) (sym i) (sym m)

    pub part_open : ends ≡ false → feed_leaves (record { answer = Ok reading; held = r }) g t l ≡ feed_part (feed_leaves state g t line) part ends
    unfolding feed_part
    part_open n = rw n (sym held_so)

    pub part_ends : (r' : LineAnswer) (g' t' : List ℕ) → ends ≡ true → leaves r' g' t' ≡ read_line reading (lent g t) (take r l)
        → feed_leaves (record { answer = r'; held = 0 }) g' t' l ≡ feed_part (feed_leaves state g t line) part ends
    unfolding feed_part feed_byte
    part_ends r' g' t' n p = rw n (ap (λ p. record { progress = p; held = 0; line = l }) p ∙ ap (λ fed. feed_byte fed lf) (sym held_so))

-- ---- the loop over the lines, and the calls

-- where a line ends stands its LF, or nothing
cut_there : (bytes : List ℕ) (at end : ℕ) → PieceEnds lf bytes at end → drop end bytes ≡ closing (ltb end (length bytes)) ++ drop (end + 1) bytes
cut_there bytes at end p =
    ⊎_elim
    (λ h.
    rw (lt-ltb end (length bytes) h)
    (drop-cons bytes end 0 h ∙ ap₂ (λ b k. b ∷ drop k bytes) (piece_stops lf bytes at end p h) (sym (add-one end))))
    (λ h. rw (le-ltb end (length bytes) h) (drop_of_length-le bytes h ∙ sym (drop_of_length-le bytes {i = end + 1} (omega arith))))
    (below_or end (length bytes))

-- bytes from a place on are those of the line there, its LF where it ends, and the rest
cut_at : (bytes : List ℕ) (at end : ℕ) → PieceEnds lf bytes at end
    → drop at bytes ≡ (take (end - at) (drop at bytes) ++ closing (ltb end (length bytes))) ++ drop (end + 1) bytes
cut_at bytes at end p =
    let part : List ℕ = take (end - at) (drop at bytes) in
    let place : at + (end - at) ≡ end = omega (arith, p.behind) in
    sym (take-append-drop (end - at) (drop at bytes))
    ∙ ap (λ r. part ++ r) (drop-drop (end - at) at bytes ∙ ap (λ k. drop k bytes) place ∙ cut_there bytes at end p)
    ∙ sym (append_assoc part (closing (ltb end (length bytes))) (drop (end + 1) bytes))

pub fed_on : (fed next whole : Fed) (bytes : List ℕ) (at end n : ℕ) → PieceEnds lf bytes at end → n ≡ end + 1
    → next ≡ feed_part fed (take (end - at) (drop at bytes)) (ltb end (length bytes)) → feed_all fed (drop at bytes) ≡ whole
    → feed_all next (drop n bytes) ≡ whole
fed_on fed next whole bytes at end n p i e k =
    let part : List ℕ = take (end - at) (drop at bytes) in
    ap₂ (λ f n. feed_all f (drop n bytes)) (e ∙ part_all fed part (ltb end (length bytes))) i
    ∙ fed_in_pieces fed (part ++ closing (ltb end (length bytes))) (drop (end + 1) bytes)
    ∙ ap (feed_all fed) (sym (cut_at bytes at end p))
    ∙ k

fed_done : (fed whole : Fed) (bytes : List ℕ) (i : ℕ) → length bytes ≤ i → feed_all fed (drop i bytes) ≡ whole → fed ≡ whole
unfolding feed_all
fed_done fed whole bytes i h k = rw (drop_of_length-le bytes h) at k

module _ (state : Feed) (g t line : List ℕ) (r : Bool) (room : r ≡ room_for state.answer (length g) (length t) (length line)) where
  pub call_short : (bytes : List ℕ) → not r ≡ true
      → feed_leaves (record { answer = Err Room; held = state.held }) g t line ≡ feed_call (feed_leaves state g t line) bytes
  unfolding feed_call has_room
  call_short bytes h = rw (sym room ∙ not_true r h)

  pub end_short : not r ≡ true → leaves (Err Room) g t ≡ finish_call (feed_leaves state g t line)
  unfolding finish_call has_room
  end_short h = rw (sym room ∙ not_true r h)

  module _ (ok : not r ≡ false) where
    pub call_done : (bytes : List ℕ) (h : ℕ) (fed : Fed) (i : ℕ) → h ≡ min state.held line_room → length bytes ≤ i
        → feed_all fed (drop i bytes) ≡ feed_all (feed_leaves (record { answer = state.answer; held = h }) g t line) bytes
        → fed ≡ feed_call (feed_leaves state g t line) bytes
    unfolding feed_call has_room
    call_done bytes h fed i e d k = fed_done fed _ bytes i d k ∙ rw (sym room ∙ not_false r ok, e)

    pub end_refused : (why : Refusal) → state.answer ≡ Err why → leaves state.answer g t ≡ finish_call (feed_leaves state g t line)
    unfolding finish_call has_room finish
    end_refused why e = rw (sym room ∙ not_false r ok) (rw e)

    module _ (h : ℕ) (e : h ≡ min state.held line_room) (reading : Reading) (a : state.answer ≡ Ok reading) where
      pub end_empty : h ≡ 0 → leaves (Ok reading) g t ≡ finish_call (feed_leaves state g t line)
      unfolding finish_call has_room finish
      end_empty z = rw (sym room ∙ not_false r ok) (rw (a, eq-eqb (min state.held line_room) 0 (sym e ∙ z)))

      pub end_line_lem : (r : LineAnswer) (g' t' : List ℕ) → (h ≡ 0 → ⊥) → leaves r g' t' ≡ read_line reading (lent g t) (take h line)
          → leaves r g' t' ≡ finish_call (feed_leaves state g t line)
      unfolding finish_call has_room finish
      end_line_lem r' g' t' z k =
          rw (sym room ∙ not_false r ok)
          (rw (a, ne_eqb (min state.held line_room) 0 (λ f. z (e ∙ f)))
          (k ∙ ap (λ h. read_line reading (lent g t) (take h line)) e))
