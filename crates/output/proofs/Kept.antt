-- Rows keep their lengths, whatever is stored.
-- Assumes nothing.
use mathlib.Core.Path.{◌≡◌, refl, ◌∙◌}
use mathlib.Core.Bool.{true, false}
use mathlib.Core.List.{List, [], ◌∷◌}
use lib.ListN.{length}
use Rattle.rules.specs.Families.{Literal, plus, minus}
use Rattle.rules.specs.Rows.{Rows, store, store_all}
use Rattle.rows.proofs.Bits.{length-with}

pub record Kept (after before : Rows) : Type 0 where
  pub given : length after.given ≡ length before.given
  pub is_true : length after.is_true ≡ length before.is_true

pub kept_same : (rows : Rows) → Kept rows rows
kept_same rows = record { given = refl; is_true = refl }

pub kept_on : (a b c : Rows) → Kept a b → Kept b c → Kept a c
kept_on a b c h k = record { given = h.given ∙ k.given; is_true = h.is_true ∙ k.is_true }

store_keeps : (rows : Rows) (l : Literal) → Kept (store rows l) rows
unfolding store
store_keeps rows (plus v) = record { given = length-with rows.given v true; is_true = length-with rows.is_true v true }
store_keeps rows (minus v) = record { given = length-with rows.given v true; is_true = length-with rows.is_true v false }

pub all_keep : (rows : Rows) (ls : List Literal) → Kept (store_all rows ls) rows
unfolding store_all
all_keep rows [] = kept_same rows
all_keep rows (l ∷ ls) = kept_on (store_all (store rows l) ls) (store rows l) rows (all_keep (store rows l) ls) (store_keeps rows l)
