-- Stretches of lent bytes: which bytes stand from a place on, and what writing over a part does to them.
-- Assumes nothing.
use mathlib.Core.Path.{◌≡◌, sym, ap, ◌∙◌}
use mathlib.Core.List.{List, [], ◌∷◌, ◌++◌}
use Prim.Native.Nat.{ℕ, suc, ◌+◌, ◌*◌, ◌≤◌, ◌<◌}
use native.Mathlib.Omega.{arith}
use lib.ListN.{length, take, drop, set, take-append-drop, length-append, length-take, length-drop}
use lib.Seq.{length-take-le, take-append_seam, drop-append_seam, take-append-le, drop-append-le, take-take, take-add, drop-drop, drop_at, take-suc-set}
use Rattle.rules.specs.Limits.{pair_bytes}
use Rattle.rules.specs.Task.{Pair}
use Rattle.rules.specs.File.{pairs_at, pair_text}
use Rattle.rules.specs.Format.{put_in_order}
use Rattle.rules.proofs.Actions.{length-pair_text, pairs_back}
use Rattle.digits.specs.Over.{over}
use Rattle.bodies.specs.Keeping.{with_pair}

-- from place at on stand these bytes
abbrev pub Held : (s : List ℕ) (at : ℕ) (bytes : List ℕ) → Type 0
Held s at bytes = take (length bytes) (drop at s) ≡ bytes

module _ (s : List ℕ) (at : ℕ) (x y : List ℕ) where
  pub held_both : Held s at x → Held s (at + length x) y → Held s at (x ++ y)
  held_both h k =
      rw (length-append x y, take-add (length x) (length y) (drop at s), drop-drop (length x) at s, k, h)

  pub held_left : Held s at (x ++ y) → Held s at x
  held_left h =
      sym (take-take (length x) (length (x ++ y)) (drop at s) (omega (arith, length-append x y)))
      ∙ ap (take (length x)) h
      ∙ take-append_seam x y

  pub held_right : Held s at (x ++ y) → Held s (at + length x) y
  held_right h =
      let l : List ℕ = drop at s in
      let rest : List ℕ = take (length y) (drop (length x) l) in
      let both : x ++ rest ≡ x ++ y =
      ap (λ w. w ++ rest) (sym (held_left h))
      ∙ sym (take-add (length x) (length y) l)
      ∙ ap (λ k. take k l) (sym (length-append x y))
      ∙ h in
      ap (take (length y)) (sym (drop-drop (length x) at s))
      ∙ sym (drop-append_seam x rest)
      ∙ ap (drop (length x)) both
      ∙ drop-append_seam x y

-- ---- writing over a part

-- what stands before it
before_alike : (p q r : List ℕ) (at : ℕ) (x : List ℕ) → at + length x ≤ length p → take (length x) (drop at (p ++ q)) ≡ take (length x) (drop at (p ++ r))
before_alike p q r at x h =
    let fits : length x ≤ length (drop at p) = omega (arith, length-drop at p) in
    rw (
      drop-append-le at p q (omega arith),
      drop-append-le at p r (omega arith),
      take-append-le (length x) (drop at p) q fits,
      take-append-le (length x) (drop at p) r fits,
    )

module _ (s : List ℕ) (i : ℕ) (y : List ℕ) where
  pub held_before : (at : ℕ) (x : List ℕ) → i ≤ length s → at + length x ≤ i → Held s at x → Held (over s i y) at x
  unfolding over
  held_before at x b l h =
      before_alike (take i s) (y ++ drop (i + length y) s) (drop i s) at x (omega (arith, length-take i s))
      ∙ ap (λ t. take (length x) (drop at t)) (take-append-drop i s)
      ∙ h

  over_front : i ≤ length s → drop i (over s i y) ≡ y ++ drop (i + length y) s
  unfolding over
  over_front b = drop_at (take i s) (y ++ drop (i + length y) s) i (length-take-le i s b)

  pub held_over : i ≤ length s → Held (over s i y) i y
  held_over b = ap (take (length y)) (over_front b) ∙ take-append_seam y (drop (i + length y) s)

  -- what stands behind it
  pub held_behind : (x : List ℕ) → i ≤ length s → Held s (i + length y) x → Held (over s i y) (i + length y) x
  held_behind x b h =
      ap (take (length x))
      (sym (drop-drop (length y) i (over s i y)) ∙ ap (drop (length y)) (over_front b) ∙ drop-append_seam y (drop (i + length y) s))
      ∙ h

-- ---- one byte more at the end

pub held_more : (s x : List ℕ) (k b : ℕ) → k ≡ length x → k < length s → Held s 0 x → Held (set s k b) 0 (x ++ (b ∷ []))
held_more s x k b e l h =
    let m : length (x ++ (b ∷ [])) ≡ suc k = omega (arith, length-append x (b ∷ [])) in
    rw m (take-suc-set s k b l ∙ ap (λ t. t ++ (b ∷ [])) (ap (λ k. take k s) e ∙ h))

-- ---- pairs

module _ (s : List ℕ) (at : ℕ) (ps : List Pair) (within : at ≤ length s) where
  pairs_held : Held s at (pair_text ps) → pairs_at s at (length ps) ≡ ps
  pairs_held h =
      let text : List ℕ = pair_text ps in
      let rest : List ℕ = drop (length text) (drop at s) in
      let whole : s ≡ take at s ++ (text ++ rest) =
      sym (take-append-drop at s)
      ∙ ap (λ r. take at s ++ r) (sym (take-append-drop (length text) (drop at s)) ∙ ap (λ t. t ++ rest) h) in
      ap (λ t. pairs_at t at (length ps)) whole
      ∙ pairs_back (take at s) ps rest at (sym (length-take-le at s within))

  -- a pair is put in order among them, before bytes that move up
  pub pair_put : (behind : List ℕ) (p : Pair) (count more : ℕ) → count ≡ length ps → more ≡ length behind → Held s at (pair_text ps ++ behind)
      → with_pair s at count more p ≡ over s at (pair_text (put_in_order p ps) ++ behind)
  unfolding with_pair
  pair_put behind p count more c m h =
      let text : List ℕ = pair_text ps in
      let place : at + pair_bytes * count ≡ at + length text = omega (arith, length-pair_text ps) in
      rw (place, c, m, pairs_held (held_left s at text behind h), held_right s at text behind h)
