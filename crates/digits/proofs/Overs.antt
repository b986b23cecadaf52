-- Laws of writing over lent room: one part behind the other is one part, and a part may be written from its end.
-- Assumes nothing.
use mathlib.Core.Path.{◌≡◌, sym, ap, ◌∙◌}
use mathlib.Core.List.{List, [], ◌∷◌, ◌++◌, append_assoc, append-nil}
use Prim.Native.Nat.{ℕ, zero, suc, ◌+◌, ◌-◌, ◌≤◌, ◌<◌}
use native.Mathlib.Omega.{arith}
use native.Mathlib.Nat.{add-zero, zero-add, suc-add}
use borrow.Rule.Slice.PartMut.{put_mid}
use lib.ListN.{length, take, drop, set, take-append-drop, length-append, length-take, length-drop, drop_of_length-le}
use lib.Seq.{take_all, set_split, take-set-le, drop-append-add, take-append_seam, drop-drop, drop_at, length-take-le, sets, sets-eq}
use Rattle.digits.specs.Over.{over, Wrote}

module _ {X : Type 0} where
  pub over_none : (l : List X) (i : ℕ) → over l i [] ≡ l
  unfolding over
  over_none l i = rw (add-zero i) (take-append-drop i l)

  -- from the front on
  pub over_front : (l x : List X) → over l 0 x ≡ x ++ drop (length x) l
  unfolding over
  over_front l x = rw (zero-add (length x))

  over_cons : (a : X) (l : List X) (i : ℕ) (x : List X) → over (a ∷ l) (suc i) x ≡ a ∷ over l i x
  unfolding over
  over_cons a l i x = rw (suc-add i (length x))

  -- behind the end
  over_behind : (l : List X) (i : ℕ) (x : List X) → length l ≤ i → over l i x ≡ l ++ x
  unfolding over
  over_behind l i x h = rw (take_all i l h, drop_of_length-le l {i = i + length x} (omega arith), append-nil)

  joins : (l x y : List X) → over (x ++ drop (length x) l) (length x) y ≡ (x ++ y) ++ drop (length (x ++ y)) l
  unfolding over
  joins l x y =
      rw (take-append_seam x (drop (length x) l), drop-append-add x (drop (length x) l) (length y), drop-drop (length y) (length x) l, length-append, append_assoc)

  -- what is written behind a part joins it
  pub over_over : (l : List X) (i : ℕ) (x y : List X) → over (over l i x) (i + length x) y ≡ over l i (x ++ y)
  over_over l zero x y = rw (over_front l x, zero-add, over_front l (x ++ y)) (joins l x y)
  over_over [] (suc i) x y =
      rw (over_behind [] (suc i) x (omega arith), over_behind x (suc i + length x) y (omega arith), over_behind [] (suc i) (x ++ y) (omega arith))
  over_over (a ∷ l) (suc i) x y =
      rw (over_cons a l i x, suc-add i (length x), over_cons a (over l i x) (i + length x) y, over_cons a l i (x ++ y)) (ap (λ r. a ∷ r) (over_over l i x y))

  pub length_over : (l : List X) (i : ℕ) (x : List X) → i + length x ≤ length l → length (over l i x) ≡ length l
  unfolding over
  length_over l i x h = simp (length-append, length-take, length-drop) (omega arith)

  -- one element after the other
  pub sets_over : (l : List X) (i : ℕ) (x : List X) → i + length x ≤ length l → sets l i x ≡ over l i x
  unfolding over
  sets_over l i x h = sets-eq x l i h ∙ append_assoc (take i l) x (drop (i + length x) l)

  pub set_over : (l : List X) (i : ℕ) (a : X) → i < length l → set l i a ≡ over l i (a ∷ [])
  set_over l i a h = sets_over l i (a ∷ []) (omega arith)

  drop_set : (l : List X) (i : ℕ) (a : X) → i < length l → drop i (set l i a) ≡ a ∷ drop (suc i) l
  drop_set l i a h = rw (set_split l i a h) (drop_at (take i l) (a ∷ drop (suc i) l) i (length-take-le i l (omega arith)))

  -- a part's last element first
  pub over_last : (l : List X) (i : ℕ) (x : List X) (a : X) → i + length x < length l → over (set l (i + length x) a) i x ≡ over l i (x ++ (a ∷ []))
  unfolding over
  over_last l i x a h =
      let e : suc (i + length x) ≡ i + (length x + 1) = omega arith in
      rw (take-set-le i l (i + length x) a (omega arith), drop_set l (i + length x) a h, length-append x (a ∷ []), append_assoc x (a ∷ []), e)

  again_front : (l x y : List X) → length x ≤ length y → over (over l 0 x) 0 y ≡ over l 0 y
  again_front l x y h =
      let e : length y ≡ length x + (length y - length x) = omega arith in
      rw (over_front (over l 0 x) y, over_front l x, over_front l y)
      (ap (λ r. y ++ r)
      (ap (λ n. drop n (x ++ drop (length x) l)) e
      ∙ drop-append-add x (drop (length x) l) (length y - length x)
      ∙ drop-drop (length y - length x) (length x) l
      ∙ ap (λ n. drop n l) (sym e)))

  -- what is written over a part that is no longer hides it
  over_again : (l : List X) (i : ℕ) (x y : List X) → i ≤ length l → length x ≤ length y → over (over l i x) i y ≡ over l i y
  over_again l zero x y b h = again_front l x y h
  over_again [] (suc i) x y b h = absurd (omega arith)
  over_again (a ∷ l) (suc i) x y b h =
      rw (over_cons a l i x, over_cons a (over l i x) i y, over_cons a l i y) (ap (λ r. a ∷ r) (over_again l i x y (omega arith) h))

  -- the rest of a part is written anew, and perhaps more behind it
  pub over_rest : (l : List X) (i : ℕ) (x z y : List X) → i + length x ≤ length l → length z ≤ length y
      → over (over l i (x ++ z)) (i + length x) y ≡ over l i (x ++ y)
  over_rest l i x z y b h =
      ap (λ r. over r (i + length x) y) (sym (over_over l i x z))
      ∙ over_again (over l i x) (i + length x) z y (omega (arith, length_over l i x b)) h
      ∙ over_over l i x y

  -- what a copy into a part leaves
  pub part_over : (l x y : List X) (i k : ℕ) → y ≡ x → k ≡ length x → put_mid i k l y ≡ over l i x
  unfolding over
  part_over l x y i k e f = rw (e, f) (ap (λ r. take i l ++ (x ++ r)) (drop-drop (length x) i l))

-- ---- one text behind the other

pub wrote_nothing : (l : List ℕ) (at : ℕ) → Wrote l at [] l at
wrote_nothing l at = record { written = sym (over_none l at); behind = omega arith }

pub wrote_more : (l m m' : List ℕ) (at e e' : ℕ) (x y : List ℕ) → Wrote l at x m e → Wrote m e y m' e' → Wrote l at (x ++ y) m' e'
wrote_more l m m' at e e' x y p q =
    record {
      written = q.written ∙ rw (p.written, p.behind) (over_over l at x y);
      behind = q.behind ∙ rw (p.behind, length-append x y) (omega arith);
    }
