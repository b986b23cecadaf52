-- Writing part behind part over lent room, and a text byte behind byte.
-- Assumes nothing.
use mathlib.Core.Path.{◌≡◌, refl, sym, ap, ◌∙◌}
use mathlib.Core.List.{List, [], ◌∷◌, ◌++◌}
use Prim.Native.Nat.{ℕ, ◌+◌, ◌≤◌, ◌<◌}
use native.Mathlib.Omega.{arith}
use native.Mathlib.Nat.{add-zero}
use native.Mathlib.Numerals.{add-one}
use lib.ListN.{length, get_or, take, length-append, length-take}
use lib.Seq.{take-suc, take_all}
use Rattle.digits.specs.Over.{over}
use Rattle.digits.proofs.Overs.{over_none, over_over, length_over}

-- x is written over room from a place on, and ends at another
pub record Written (room : List ℕ) (at : ℕ) (x now : List ℕ) (end : ℕ) : Type 0 where
  pub is : now ≡ over room at x
  pub behind : end ≡ at + length x
  pub kept : length now ≡ length room

pub written_none : (room : List ℕ) (at : ℕ) → Written room at [] room at
written_none room at = record { is = sym (over_none room at); behind = sym (add-zero at); kept = refl }

pub written_more : (room : List ℕ) (at : ℕ) (x now : List ℕ) (end : ℕ) → Written room at x now end
    → (y more : List ℕ) (last : ℕ) → end + length y ≤ length now → more ≡ over now end y → last ≡ end + length y → Written room at (x ++ y) more last
written_more room at x now end w y more last h e f =
    record {
      is = e ∙ rw (w.is, w.behind) (over_over room at x y);
      behind = omega (arith, w.behind, f, length-append x y);
      kept = ap length e ∙ length_over now end y h ∙ w.kept;
    }

-- ---- the bytes of a text

pub text_within : (room : List ℕ) (at : ℕ) (text now : List ℕ) (end i : ℕ) → Written room at (take i text) now end → i < length text
    → at + length text ≤ length room → end < length now
text_within room at text now end i w h l =
    omega (arith, w.behind, w.kept, length-take i text)

pub text_more : (room : List ℕ) (at : ℕ) (text now : List ℕ) (end i : ℕ) (more : List ℕ) (last : ℕ) → Written room at (take i text) now end
    → i < length text → at + length text ≤ length room → more ≡ over now end (get_or text i 0 ∷ []) → last ≡ end + 1 → Written room at (take (i + 1) text) more last
text_more room at text now end i more last w h l e f =
    rw (add-one i, take-suc text i 0 h)
    (written_more room at (take i text) now end w (get_or text i 0 ∷ []) more last (omega (arith, text_within room at text now end i w h l)) e f)

pub text_is : (room : List ℕ) (at : ℕ) (text now : List ℕ) (end i : ℕ) → Written room at (take i text) now end → length text ≤ i → now ≡ over room at text
text_is room at text now end i w h = w.is ∙ ap (over room at) (take_all i text h)

pub text_behind_lem : (room : List ℕ) (at : ℕ) (text now : List ℕ) (end i : ℕ) → Written room at (take i text) now end → length text ≤ i → end ≡ at + length text
text_behind_lem room at text now end i w h = w.behind ∙ ap (λ x. at + length x) (take_all i text h)
