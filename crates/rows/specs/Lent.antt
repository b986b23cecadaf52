-- Two rows as they are lent to a call.
-- Assumes nothing.
use Rattle.std.specs.Prelude.{ℕ, List}
use Rattle.rules.specs.Rows.{Rows}

abbrev pub lent : (given is_true : List ℕ) → Rows
lent given is_true = record { given = given; is_true = is_true }
