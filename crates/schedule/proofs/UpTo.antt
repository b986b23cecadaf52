-- A row written from its first bit up: below a place all bits stand, from there on none. Each stretch has one true bit, or none.
-- Assumes nothing.
use mathlib.Core.Path.{◌≡◌, refl, sym, ap, ◌∙◌}
use mathlib.Core.Logic.{⊎_elim}
use mathlib.Core.Bool.{Bool, true, false, ◌&&◌}
use mathlib.Core.List.{List}
use Prim.Native.Nat.{ℕ, suc, ◌+◌, ◌-◌, ◌≤◌, ◌<◌}
use native.Mathlib.Omega.{arith}
use borrow.Author.Tests.{lt-ltb, le-ltb, eq-eqb, ne_eqb, eqb-true, eqb-false}
use lib.Dec.{ltb, eqb}
use lib.ListN.{length, get_or, set, replicate, length-set, length-replicate, get_or-replicate}
use lib.Seq.{ext_get_or, get_or-set_same, get_or-set_other}
use Rattle.rules.specs.Counting.{table}
use Rattle.rules.specs.Rows.{words_for, with_variable, packed, over_row}
use Rattle.rules.proofs.Bools.{either, below_or}
use Rattle.rules.proofs.Counting.{length-table, get_or-table, for_each-ext}
use Rattle.schedule.proofs.Packing.{with_packed, packed_none}

module _ (m : ℕ) (bit : ℕ → Bool) where
  -- of m bits, those below a place
  unfoldable pub up_to : ℕ → List Bool
  up_to i = table m (λ j. ltb j i && bit j)

  length-up_to : (i : ℕ) → length (up_to i) ≡ m
  unfolding up_to
  length-up_to i = length-table m _

  below : (i j : ℕ) → j < m → j < i → get_or (up_to i) j false ≡ bit j
  unfolding up_to
  below i j h l = get_or-table m _ false j h ∙ rw (lt-ltb j i l)

  behind : (i j : ℕ) → j < m → i ≤ j → get_or (up_to i) j false ≡ false
  unfolding up_to
  behind i j h l = get_or-table m _ false j h ∙ rw (le-ltb j i l)

  up_to-none : replicate m false ≡ up_to 0
  up_to-none =
      ext_get_or false _ _ (length-replicate m false ∙ sym (length-up_to 0)) (λ j l.
      let h : j < m = omega (arith, length-replicate {A = Bool} m false) in
      get_or-replicate m j false false h ∙ sym (behind 0 j h (omega arith)))

  up_to-all : up_to m ≡ table m bit
  unfolding up_to
  up_to-all = for_each-ext m _ _ (λ j l. rw (lt-ltb j m l))

  -- a stretch of w bits from place i on
  module _ (i w : ℕ) (fits : i + w ≤ m) where
    stretch_one : (v : ℕ) → v < w → ((u : ℕ) → u < w → bit (i + u) ≡ eqb v u) → set (up_to i) (i + v) true ≡ up_to (i + w)
    stretch_one v hv h =
        ext_get_or false _ _ (length-set (up_to i) (i + v) true ∙ length-up_to i ∙ sym (length-up_to (i + w))) (λ j l.
        let hj : j < m = omega (arith, length-set (up_to i) (i + v) true, length-up_to i) in
        ⊎_elim
        (λ t.
        let e : j ≡ i + v = eqb-true j (i + v) t in
        ap (λ k. get_or (set (up_to i) (i + v) true) k false) e
        ∙ get_or-set_same (up_to i) (i + v) true false (omega (arith, length-up_to i))
        ∙ sym (below (i + w) j hj (omega arith) ∙ ap bit e ∙ h v hv ∙ eq-eqb v v refl))
        (λ t.
        let d : j ≡ i + v → ⊥ = eqb-false j (i + v) t in
        get_or-set_other (up_to i) (i + v) j true false d
        ∙ ⊎_elim (λ b. below i j hj b ∙ sym (below (i + w) j hj (omega arith)))
        (λ b.
        behind i j hj b
        ∙ ⊎_elim
        (λ c.
        let at : j ≡ i + (j - i) = omega arith in
        sym (below (i + w) j hj c ∙ ap bit at ∙ h (j - i) (omega arith) ∙ ne_eqb v (j - i) (λ q. d (omega arith))))
        (λ c. sym (behind (i + w) j hj c))
        (below_or j (i + w)))
        (below_or j i))
        (either (eqb j (i + v))))

    stretch_none : ((u : ℕ) → u < w → bit (i + u) ≡ false) → up_to i ≡ up_to (i + w)
    stretch_none h =
        ext_get_or false _ _ (length-up_to i ∙ sym (length-up_to (i + w))) (λ j l.
        let hj : j < m = omega (arith, length-up_to i) in
        ⊎_elim (λ b. below i j hj b ∙ sym (below (i + w) j hj (omega arith)))
        (λ b.
        behind i j hj b
        ∙ ⊎_elim
        (λ c. let at : j ≡ i + (j - i) = omega arith in sym (below (i + w) j hj c ∙ ap bit at ∙ h (j - i) (omega arith)))
        (λ c. sym (behind (i + w) j hj c))
        (below_or j (i + w)))
        (below_or j i))

  -- ---- the same in a row of words

  unfoldable pub row_up_to : ℕ → List ℕ → List ℕ
  row_up_to i row = over_row (packed (up_to i)) row

  pub row_none : (row : List ℕ) → over_row (replicate (words_for m) 0) row ≡ row_up_to 0 row
  unfolding row_up_to
  row_none row = ap (λ words. over_row words row) (packed_none m ∙ ap packed up_to-none)

  pub row_all : (row : List ℕ) → row_up_to m row ≡ over_row (packed (table m bit)) row
  unfolding row_up_to
  row_all row = ap (λ bits. over_row (packed bits) row) up_to-all

  module _ (i w : ℕ) (fits : i + w ≤ m) (row : List ℕ) where
    pub row_one : (v number : ℕ) → number ≡ suc (i + v) → v < w → ((u : ℕ) → u < w → bit (i + u) ≡ eqb v u)
        → with_variable (row_up_to i row) number true ≡ row_up_to (i + w) row
    unfolding row_up_to
    row_one v number e hv h =
        with_packed (up_to i) (i + v) true (omega (arith, length-up_to i)) row number e
        ∙ ap (λ bits. over_row (packed bits) row) (stretch_one i w fits v hv h)

    pub row_no_more : ((u : ℕ) → u < w → bit (i + u) ≡ false) → row_up_to i row ≡ row_up_to (i + w) row
    unfolding row_up_to
    row_no_more h = ap (λ bits. over_row (packed bits) row) (stretch_none i w fits h)
