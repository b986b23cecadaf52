-- Bytes that give way to a pair: what stands from a place on is moved up, the last first, and the pair is written before it.
-- Assumes nothing.
use mathlib.Core.Path.{◌≡◌, refl, sym, ap, ap₂, ◌∙◌}
use mathlib.Core.List.{List, ◌∷◌, ◌++◌, append_assoc}
use Prim.Native.Nat.{ℕ, suc, ◌+◌, ◌-◌, ◌*◌, ◌≤◌, ◌<◌}
use native.Mathlib.Omega.{arith}
use lib.ListN.{length, take, drop, set, length-append, length-set, take-append-drop}
use lib.Seq.{set_split, set_comm, take-append-le, take-take, take-add, drop-append-le, drop_at, length-take-le, slice, length-slice}
use Rattle.std.specs.List.{copy_within}
use Rattle.std.proofs.lemmas.List.{drop-take}
use Rattle.rules.specs.Limits.{pair_bytes}
use Rattle.rules.specs.Task.{Pair}
use Rattle.rules.specs.File.{pairs_at, pair_text}
use Rattle.rules.specs.Format.{put_in_order}
use Rattle.digits.specs.Over.{over}
use Rattle.digits.proofs.Overs.{over_over, length_over}
use Rattle.bodies.specs.Keeping.{with_pair}
use Rattle.bodies.specs.InOrder.{place_of, moved_up}
use Rattle.bodies.proofs.InOrder.{place_within, text_at_place}

module _ {X : Type 0} where
  -- a part's first element last
  pub over_first : (l : List X) (i : ℕ) (a : X) (x : List X) → suc i + length x ≤ length l → set (over l (suc i) x) i a ≡ over l i (a ∷ x)
  unfolding over
  over_first l i a x h =
      let rest : List X = x ++ drop (suc i + length x) l in
      let whole : List X = take (suc i) l ++ rest in
      let seam : length (take (suc i) l) ≡ suc i = length-take-le (suc i) l (omega arith) in
      let here : i < length whole = omega (arith, length-append (take (suc i) l) rest) in
      let front : take i whole ≡ take i l = take-append-le i (take (suc i) l) rest (omega arith) ∙ take-take i (suc i) l (omega arith) in
      let end : suc i + length x ≡ i + suc (length x) = omega arith in
      set_split whole i a here
      ∙ rw (front, drop_at (take (suc i) l) rest (suc i) seam, end)

  -- a part and what stands behind it
  pub slice_more : (l : List X) (a b n : ℕ) → a ≤ b → b ≤ length l → slice a b l ++ take n (drop b l) ≡ slice a (b + n) l
  slice_more l a b n h k =
      sym (ap (drop a) (take-add b n l) ∙ drop-append-le a (take b l) (take n (drop b l)) (omega (arith, length-take-le b l k)))

  over_same : (l : List X) (i m : ℕ) → i + m ≤ length l → over l i (slice i (i + m) l) ≡ l
  unfolding over
  over_same l i m h =
      let long : length (slice i (i + m) l) ≡ m = omega (arith, length-slice i (i + m) l h) in
      let behind : slice i (i + m) l ++ drop (i + m) l ≡ drop i l =
      sym (drop-append-le i (take (i + m) l) (drop (i + m) l) (omega (arith, length-take-le (i + m) l h))) ∙ ap (drop i) (take-append-drop (i + m) l) in
      rw (long, behind) (take-append-drop i l)

  -- a part written over itself changes nothing, so what is written behind it may be written with it
  pub over_itself : (l : List X) (i m : ℕ) (y : List X) → i + m ≤ length l → over l i (slice i (i + m) l ++ y) ≡ over l (i + m) y
  over_itself l i m y h =
      let part : List X = slice i (i + m) l in
      let long : length part ≡ m = omega (arith, length-slice i (i + m) l h) in
      let whole : over l i part ≡ l = over_same l i m h in
      sym (over_over l i part y) ∙ rw (whole, long)

-- ---- moved up

pub length-moved_up : (l : List ℕ) (from end : ℕ) → from ≤ end → end + pair_bytes ≤ length l → length (moved_up l from end) ≡ length l
unfolding moved_up
length-moved_up l from end h b = length_over l (from + pair_bytes) (slice from end l) (omega (arith, length-slice from end l (omega arith)))

-- what the library's method leaves
pub copied_up : (l now : List ℕ) (from end : ℕ) → from ≤ end → end + pair_bytes ≤ length l → now ≡ copy_within l from end (from + pair_bytes)
    → now ≡ moved_up l from end
unfolding moved_up over
copied_up l now from end h b e =
    let much : from + (end - from) ≡ end = omega arith in
    let part : slice from end l ≡ take (end - from) (drop from l) = ap (λ k. drop from (take k l)) (sym much) ∙ drop-take from (end - from) l in
    let long : length (slice from end l) ≡ end - from = length-slice from end l (omega arith) in
    e
    ∙ append_assoc (take (from + pair_bytes) l) (take (end - from) (drop from l)) (drop (from + pair_bytes + (end - from)) l)
    ∙ ap₂ (λ x n. take (from + pair_bytes) l ++ (x ++ drop (from + pair_bytes + n) l)) (sym part) (sym long)

-- ---- the pair before them

pub pair_put : (l : List ℕ) (from end v w : ℕ) → from ≤ end → end + pair_bytes ≤ length l
    → set (set (moved_up l from end) from v) (from + 1) w ≡ over l from (v ∷ w ∷ slice from end l)
unfolding moved_up
pair_put l from end v w h b =
    let x : List ℕ = slice from end l in
    let long : length x ≡ end - from = length-slice from end l (omega arith) in
    let two : from + pair_bytes ≡ suc (from + 1) = omega arith in
    let one : from + 1 ≡ suc from = omega arith in
    set_comm (over l (from + pair_bytes) x) from (from + 1) v w (λ q. omega arith)
    ∙ ap (λ p. set (set (over l p x) (from + 1) w) from v) two
    ∙ ap (λ s. set s from v) (over_first l (from + 1) w x (omega arith))
    ∙ ap (λ p. set (over l p (w ∷ x)) from v) one
    ∙ over_first l from v (w ∷ x) (omega arith)

-- the place found, all behind it moved up and the pair's two bytes stored: it is put in order
pub inserted : (l moved : List ℕ) (at count behind k v w : ℕ) → at + pair_bytes * count + behind + pair_bytes ≤ length l → k ≡ place_of l at count v
    → moved ≡ moved_up l (at + pair_bytes * k) (at + pair_bytes * count + behind)
    → set (set moved (at + pair_bytes * k) v) (at + pair_bytes * k + 1) w ≡ with_pair l at count behind (record { variable = v; value = w })
unfolding with_pair
inserted l moved at count behind k v w b ek em =
    let p : Pair = record { variable = v; value = w } in
    let end : ℕ = at + pair_bytes * count in
    let from : ℕ = at + pair_bytes * k in
    let within : k ≤ count = omega (arith, place_within l at count v) in
    let text : pair_text (put_in_order p (pairs_at l at count)) ≡ slice at from l ++ (v ∷ w ∷ slice from end l) =
    text_at_place l at count p (omega arith) ∙ rw (sym ek) in
    ap (λ s. set (set s from v) (from + 1) w) em
    ∙ pair_put l from (end + behind) v w (omega arith) b
    ∙ ap (λ x. over l from (v ∷ w ∷ x)) (sym (slice_more l from end behind (omega arith) (omega arith)))
    ∙ sym (over_itself l at (pair_bytes * k) (v ∷ w ∷ slice from end l ++ take behind (drop end l)) (omega arith))
    ∙ ap (over l at) (sym (append_assoc (slice at from l) (v ∷ w ∷ slice from end l) (take behind (drop end l))))
    ∙ ap (λ x. over l at (x ++ take behind (drop end l))) (sym text)

pub length-with_pair : (l : List ℕ) (at count behind : ℕ) (p : Pair) → at + pair_bytes * count + behind + pair_bytes ≤ length l
    → length (with_pair l at count behind p) ≡ length l
length-with_pair l at count behind p b =
    let k : ℕ = place_of l at count p.variable in
    let from : ℕ = at + pair_bytes * k in
    let end : ℕ = at + pair_bytes * count + behind in
    let moved : List ℕ = moved_up l from end in
    ap length (sym (inserted l moved at count behind k p.variable p.value b refl refl))
    ∙ length-set (set moved from p.variable) (from + 1) p.value
    ∙ length-set moved from p.variable
    ∙ length-moved_up l from end (omega (arith, place_within l at count p.variable)) b
