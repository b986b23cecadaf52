-- A pair put in order among pairs that are read from bytes: by its place, its bytes stand between those of the pairs before and behind it.
-- Assumes nothing.
use mathlib.Core.Path.{◌≡◌, refl, sym, ap, ◌∙◌}
use mathlib.Core.Bool.{true, false}
use mathlib.Core.Logic.{⊎_elim}
use mathlib.Core.List.{List, [], ◌∷◌, ◌++◌}
use Prim.Native.Nat.{ℕ, zero, suc, ◌+◌, ◌*◌, ◌≤◌, ◌<◌}
use native.Mathlib.Omega.{arith}
use borrow.Author.Tests.{lt-ltb, le-ltb}
use lib.Dec.{ltb}
use lib.ListN.{length}
use lib.Seq.{slice, slice_empty, slice-cons}
use Rattle.rules.specs.Counting.{for_each}
use Rattle.rules.specs.Limits.{pair_bytes}
use Rattle.rules.specs.Task.{Pair, pair}
use Rattle.rules.specs.File.{byte, pairs_at, pair_text}
use Rattle.rules.specs.Format.{put_in_order}
use Rattle.rules.proofs.Bools.{below_or}
use Rattle.rules.proofs.Counting.{for_each-front, for_each-ext, first_le, first_before, first_at, first_is, first_none}
use Rattle.bodies.specs.InOrder.{place_of}

abbrev pair_here : List ℕ → ℕ → Pair
pair_here s at = record { variable = byte s at; value = byte s (at + 1) }

-- ---- from the front on

pub pairs_none : (s : List ℕ) (at : ℕ) → pairs_at s at 0 ≡ []
unfolding pairs_at for_each
pairs_none s at = refl

pub pairs_cons : (s : List ℕ) (at m : ℕ) → pairs_at s at (suc m) ≡ pair_here s at ∷ pairs_at s (at + pair_bytes) m
unfolding pairs_at
pairs_cons s at m =
    let here : at + pair_bytes * 0 ≡ at = omega arith in
    for_each-front m (λ i. pair_here s (at + pair_bytes * i) ∷ [])
    ∙ ap (λ k. pair_here s k ∷ for_each m (λ i. pair_here s (at + pair_bytes * suc i) ∷ [])) here
    ∙ ap (λ l. pair_here s at ∷ l)
    (for_each-ext m (λ i. pair_here s (at + pair_bytes * suc i) ∷ []) (λ i. pair_here s (at + pair_bytes + pair_bytes * i) ∷ []) (λ i h.
    let next : at + pair_bytes * suc i ≡ at + pair_bytes + pair_bytes * i = omega arith in
    ap (λ k. pair_here s k ∷ []) next))

pub text_none : pair_text [] ≡ []
unfolding pair_text for_each
text_none = refl

pub text_cons : (p : Pair) (ps : List Pair) → pair_text (p ∷ ps) ≡ p.variable ∷ p.value ∷ pair_text ps
unfolding pair_text
text_cons p ps = for_each-front (length ps) (λ i. (pair (p ∷ ps) i).variable ∷ (pair (p ∷ ps) i).value ∷ [])

-- the bytes of a pair, and what stands behind it
slice_pair : (s : List ℕ) (at end : ℕ) → at + pair_bytes ≤ end → end ≤ length s
    → slice at end s ≡ byte s at ∷ byte s (at + 1) ∷ slice (at + pair_bytes) end s
slice_pair s at end h b =
    let one : suc at ≡ at + 1 = omega arith in
    let two : suc (at + 1) ≡ at + pair_bytes = omega arith in
    slice-cons at end s 0 (omega arith) b
    ∙ ap (λ k. byte s at ∷ slice k end s) one
    ∙ ap (λ l. byte s at ∷ l) (slice-cons (at + 1) end s 0 (omega arith) b)
    ∙ ap (λ k. byte s at ∷ byte s (at + 1) ∷ slice k end s) two

-- pairs that are read from bytes are written as these bytes
pub pairs_text : (s : List ℕ) (at m : ℕ) → at + pair_bytes * m ≤ length s → pair_text (pairs_at s at m) ≡ slice at (at + pair_bytes * m) s
pairs_text s at zero h =
    let e : at + pair_bytes * 0 ≡ at = omega arith in
    rw (pairs_none s at, text_none, e) (sym (slice_empty at s))
pairs_text s at (suc m) h =
    let e : at + pair_bytes * suc m ≡ at + pair_bytes + pair_bytes * m = omega arith in
    rw (pairs_cons s at m, text_cons (pair_here s at) (pairs_at s (at + pair_bytes) m), pairs_text s (at + pair_bytes) m (omega arith), e)
    (sym (slice_pair s at (at + pair_bytes + pair_bytes * m) (omega arith) (omega arith)))

-- ---- in order

pub put_before : (p q : Pair) (qs : List Pair) → ltb p.variable q.variable ≡ true → put_in_order p (q ∷ qs) ≡ p ∷ q ∷ qs
unfolding put_in_order
put_before p q qs h = rw h

pub put_behind : (p q : Pair) (qs : List Pair) → ltb p.variable q.variable ≡ false → put_in_order p (q ∷ qs) ≡ q ∷ put_in_order p qs
unfolding put_in_order
put_behind p q qs h = rw h

put_alone : (p : Pair) → put_in_order p [] ≡ p ∷ []
unfolding put_in_order
put_alone p = refl

-- none of the first k pairs has a larger variable
abbrev pub NoneLarger : List ℕ → (at variable k : ℕ) → Type 0
NoneLarger s at variable k = (j : ℕ) → j < k → ltb variable (byte s (at + pair_bytes * j)) ≡ false

pub text_in_order : (s : List ℕ) (at count k : ℕ) (p : Pair) → at + pair_bytes * count ≤ length s → k ≤ count → NoneLarger s at p.variable k
    → (k < count → ltb p.variable (byte s (at + pair_bytes * k)) ≡ true)
    → pair_text (put_in_order p (pairs_at s at count))
    ≡ slice at (at + pair_bytes * k) s ++ (p.variable ∷ p.value ∷ slice (at + pair_bytes * k) (at + pair_bytes * count) s)
text_in_order s at zero zero p b l none larger =
    let e : at + pair_bytes * 0 ≡ at = omega arith in
    rw (pairs_none s at, put_alone p, text_cons p [], text_none, e, slice_empty at s)
text_in_order s at (suc m) zero p b l none larger =
    let e : at + pair_bytes * 0 ≡ at = omega arith in
    let test : ltb p.variable (byte s at) ≡ true = ap (λ k. ltb p.variable (byte s k)) (sym e) ∙ larger (omega arith) in
    ap pair_text (ap (put_in_order p) (pairs_cons s at m) ∙ put_before p (pair_here s at) (pairs_at s (at + pair_bytes) m) test)
    ∙ text_cons p (pair_here s at ∷ pairs_at s (at + pair_bytes) m)
    ∙ rw (← pairs_cons s at m, pairs_text s at (suc m) b, e, slice_empty at s)
text_in_order s at zero (suc k) p b l none larger = absurd (omega arith)
text_in_order s at (suc m) (suc k) p b l none larger =
    let zeroth : at + pair_bytes * 0 ≡ at = omega arith in
    let next : (j : ℕ) → at + pair_bytes * suc j ≡ at + pair_bytes + pair_bytes * j = λ j. omega arith in
    let test : ltb p.variable (byte s at) ≡ false = ap (λ k. ltb p.variable (byte s k)) (sym zeroth) ∙ none 0 (omega arith) in
    let rest =
    text_in_order s (at + pair_bytes) m k p (omega arith) (omega arith)
    (λ j h. ap (λ i. ltb p.variable (byte s i)) (sym (next j)) ∙ none (suc j) (omega arith))
    (λ h. ap (λ i. ltb p.variable (byte s i)) (sym (next k)) ∙ larger (omega arith)) in
    ap pair_text (ap (put_in_order p) (pairs_cons s at m) ∙ put_behind p (pair_here s at) (pairs_at s (at + pair_bytes) m) test)
    ∙ text_cons (pair_here s at) (put_in_order p (pairs_at s (at + pair_bytes) m))
    ∙ rw (rest, next k, next m, slice_pair s at (at + pair_bytes + pair_bytes * k) (omega arith) (omega arith))

-- ---- the place

pub none_larger_yet : (s : List ℕ) (at variable : ℕ) → NoneLarger s at variable 0
none_larger_yet s at variable j h = absurd (omega arith)

pub none_larger_more : (s : List ℕ) (at variable k : ℕ) → NoneLarger s at variable k → byte s (at + pair_bytes * k) ≤ variable
    → NoneLarger s at variable (k + 1)
none_larger_more s at variable k none t j h =
    ⊎_elim (λ l. none j l) (λ l. let e : j ≡ k = omega arith in ap (λ i. ltb variable (byte s (at + pair_bytes * i))) e ∙ le-ltb _ _ t) (below_or j k)

pub place_found : (s : List ℕ) (at count variable k : ℕ) → k < count → NoneLarger s at variable k → variable < byte s (at + pair_bytes * k)
    → k ≡ place_of s at count variable
unfolding place_of
place_found s at count variable k l none t = sym (first_is count _ k l (lt-ltb _ _ t) none)

pub place_behind : (s : List ℕ) (at count variable k : ℕ) → k ≤ count → count ≤ k → NoneLarger s at variable k → k ≡ place_of s at count variable
unfolding place_of
place_behind s at count variable k l g none =
    let e : k ≡ count = omega arith in
    e ∙ sym (first_none count _ (λ j h. none j (omega arith)))

pub place_within : (s : List ℕ) (at count variable : ℕ) → place_of s at count variable ≤ count
unfolding place_of
place_within s at count variable = first_le count _

module _ (s : List ℕ) (at count : ℕ) (p : Pair) (fits : at + pair_bytes * count ≤ length s) where
  abbrev here : ℕ
  here = at + pair_bytes * place_of s at count p.variable

  pub text_at_place : pair_text (put_in_order p (pairs_at s at count)) ≡ slice at here s ++ (p.variable ∷ p.value ∷ slice here (at + pair_bytes * count) s)
  unfolding place_of
  text_at_place =
      text_in_order s at count (place_of s at count p.variable) p fits (place_within s at count p.variable) (first_before count _) (first_at count _)
