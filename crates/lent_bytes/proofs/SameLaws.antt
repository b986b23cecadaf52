-- Laws of two texts: how many first bytes they share, and whether they are the same.
-- Assumes nothing.
use mathlib.Core.Path.{◌≡◌, refl, ap, ◌∙◌}
use mathlib.Core.Bool.{false, cond, ◌&&◌}
use mathlib.Core.List.{List, [], ◌∷◌}
use Prim.Native.Nat.{ℕ, suc, ◌+◌, ◌≤◌, ◌<◌, min}
use native.Mathlib.Omega.{arith}
use native.Mathlib.Numerals.{add-one}
use borrow.Author.Tests.{eq-eqb, ne_eqb}
use lib.Dec.{eqb, eqb-zero-suc, eqb-suc-suc}
use lib.Pointwise.{pointwise}
use mathlib.Core.Logic.{⊎_elim}
use Rattle.rules.proofs.Bools.{either, below_or}
use lib.ListN.{length, drop, drop_of_length-le}
use lib.Seq.{drop-cons}
use Rattle.rules.specs.File.{byte}
use Rattle.rules.specs.Lines.{agree, same}

agree_ends : (s t : List ℕ) (i : ℕ) → length s ≤ i → agree (drop i s) (drop i t) ≡ 0
unfolding agree
agree_ends s t i h = rw (drop_of_length-le s h)

agree_short : (s t : List ℕ) → length t ≡ 0 → agree s t ≡ 0
unfolding agree
agree_short [] t h = refl
agree_short (a ∷ s) [] h = refl
agree_short (a ∷ s) (b ∷ t) h = absurd (omega arith)

agree_at : (s t : List ℕ) (i : ℕ) → i < length s → i < length t → agree (drop i s) (drop i t) ≡ cond (eqb (byte s i) (byte t i)) (suc (agree (drop (i + 1) s) (drop (i + 1) t))) 0
unfolding agree
agree_at s t i h l = rw (add-one i, drop-cons s i 0 h, drop-cons t i 0 l)

module _ (s t : List ℕ) (i n : ℕ) (left : i + agree (drop i s) (drop i t) ≡ n) where
  pub shared_all : min (length s) (length t) ≤ i → i ≡ n
  shared_all h =
      ⊎_elim (λ l. omega (arith, agree_ends s t i (omega arith))) (λ l. omega (arith, agree_short (drop i s) (drop i t) (ap length (drop_of_length-le t l))))
      (below_or i (length t))

  pub shared_differ : i < length s → i < length t → (byte s i ≡ byte t i → ⊥) → i ≡ n
  shared_differ h l d = let z : agree (drop i s) (drop i t) ≡ 0 = rw (agree_at s t i h l, ne_eqb (byte s i) (byte t i) d) in omega arith

  pub shared_on : i < length s → i < length t → byte s i ≡ byte t i → i + 1 + agree (drop (i + 1) s) (drop (i + 1) t) ≡ n
  shared_on h l d =
      let z : agree (drop i s) (drop i t) ≡ suc (agree (drop (i + 1) s) (drop (i + 1) t)) = rw (agree_at s t i h l, eq-eqb (byte s i) (byte t i) d) in omega arith

-- two texts are the same if each byte of the one equals the other's
one_more : (n l m : ℕ) → eqb n l && eqb n m ≡ eqb (suc n) (suc l) && eqb (suc n) (suc m)
one_more n l m = rw (eqb-suc-suc n l, eqb-suc-suc n m) refl

differs : (l m : ℕ) → false ≡ eqb 0 (suc l) && eqb 0 (suc m)
differs l m = rw (eqb-zero-suc l) refl

pub same_is : (s t : List ℕ) → pointwise eqb s t ≡ same s t
unfolding same agree
same_is [] [] = refl
same_is [] (b ∷ t) = rw (eqb-zero-suc (length t)) refl
same_is (a ∷ s) [] = rw (eqb-zero-suc (length s)) refl
same_is (a ∷ s) (b ∷ t) =
    ⊎_elim (λ e. rw e (same_is s t ∙ one_more (agree s t) (length s) (length t))) (λ e. rw e (differs (length s) (length t))) (either (eqb a b))
