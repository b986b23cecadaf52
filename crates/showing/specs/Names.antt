-- The names of how far a reading is.
-- Assumes nothing.
use Rattle.std.specs.Prelude.{ℕ, List}
use Rattle.rules.specs.Text.{ascii}
use Rattle.rules.specs.declared.Phase.{Phase}
use Rattle.rules.specs.declared.Phase.TheVariants.{NoStatus, ModelOpen, ModelClosed, SaidUnsatisfiable, SaidUnknown}

abbrev pub name_of : Phase → List ℕ
name_of NoStatus = ascii "no-status"
name_of ModelOpen = ascii "open"
name_of ModelClosed = ascii "closed"
name_of SaidUnsatisfiable = ascii "unsatisfiable"
name_of SaidUnknown = ascii "unknown"
