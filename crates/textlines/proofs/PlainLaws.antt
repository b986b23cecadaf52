-- Laws of plain numbers: a word is tried byte by byte, and a number has few digits.
-- Assumes nothing.
use mathlib.Core.Path.{◌≡◌, refl, sym, ap}
use mathlib.Core.Logic.{⊎_elim}
use mathlib.Core.Bool.{true, false, ◌&&◌}
use mathlib.Core.List.{List, [], ◌∷◌}
use Prim.Native.Nat.{ℕ, ◌≤◌, ◌<◌}
use native.Mathlib.Omega.{arith}
use borrow.Author.Tests.{le-leb, lt-leb}
use lib.ListN.{length}
use Rattle.std.specs.List.{list_all}
use Rattle.rules.specs.Counting.{every}
use Rattle.rules.specs.Limits.{max_text_digits}
use Rattle.rules.specs.Lines.{is_digit}
use Rattle.rules.specs.Format.{is_plain}
use Rattle.rules.proofs.Bools.{clash, below_or}
use Rattle.lent_bytes.specs.Words.{most_digits}

-- ---- all bytes are digits

pub digits_every : (w : List ℕ) → list_all is_digit w ≡ every is_digit w
unfolding every
digits_every [] = refl
digits_every (b ∷ w) = ap (λ r. is_digit b && r) (digits_every w)

-- ---- a number

pub plain_long : (w : List ℕ) → max_text_digits < length w → false ≡ is_plain w
unfolding is_plain
plain_long w h = rw (le-leb 1 (length w) (omega arith), lt-leb (length w) max_text_digits h)

pub plain_few : (w : List ℕ) → is_plain w ≡ true → length w ≤ most_digits
plain_few w t =
    ⊎_elim (λ l. clash t (sym (plain_long w l))) (λ l. omega arith) (below_or max_text_digits (length w))
